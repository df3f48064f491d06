-- Every draw of a seed is a seed, and a load's claims are those of its steps.
-- Assumes nothing.
use Prim.Native.Nat.{ℕ, zero, suc, ◌+◌, ◌-◌, ◌*◌, ◌/◌, ◌%◌, ◌≤◌, ◌<◌}
use mathlib.Core.Path.{◌≡◌, refl, sym, ap, ◌∙◌}
use mathlib.Core.Bool.{true, and-eq-true_iff}
use native.Mathlib.Nat.{not-suc-le-zero, le_of_suc-le-suc}
use lib.ListN.{length, get_or}
use lib.Dec.{leb}
use borrow.Author.Tests.{le-leb}
use Rattle.basics.proofs.Tests.{tests, by}
use Rattle.claim_file.specs.BlockAnswers.{no_claim}
use Rattle.load.specs.Load.{seed_sound, draw, drawn, load_claim, step_sound, load_step, load_from, load, seed_at}
use Rattle.std.specs.Prelude.{Ok}

-- 48,271 × 1,899,818,559 is 1 more than 42,704 × 2,147,483,647. So if the draw of x is 0, x is a multiple of 2,147,483,647, which no seed is
not-multiple : (x z : ℕ) → x ≡ 2147483647 * z → 1 ≤ x → x ≤ 2147483646 → ⊥
not-multiple x z e l h = omega tests

draw-low : (x : ℕ) → 1 ≤ x → x ≤ 2147483646 → 1 ≤ 48271 * x % 2147483647
draw-low x l h =
    by (leb 1 (48271 * x % 2147483647)) (λ _. 1 ≤ 48271 * x % 2147483647) (λ t. omega tests)
    (λ t.
    let q = 48271 * x / 2147483647 in
    let e : x ≡ 2147483647 * (1899818559 * q - 42704 * x) = omega tests in
    absurd (not-multiple x (1899818559 * q - 42704 * x) e l h))

draw-seed : (x : ℕ) → seed_sound x ≡ true → seed_sound (draw x) ≡ true
unfolding seed_sound draw
draw-seed x h =
    let t = simp and-eq-true_iff at h in
    let low = draw-low x (omega tests) (omega tests) in
    let high : 48271 * x % 2147483647 ≤ 2147483646 = omega tests in
    simp (le-leb 1 (48271 * x % 2147483647) low, le-leb (48271 * x % 2147483647) 2147483646 high)

pub drawn-seed : (n x : ℕ) → seed_sound x ≡ true → seed_sound (drawn n x) ≡ true
unfolding drawn
drawn-seed zero x h = h
drawn-seed (suc n) x h = draw-seed (drawn n x) (drawn-seed n x h)

pub seed-at : (i x : ℕ) → seed_sound x ≡ true → seed_sound (seed_at x i) ≡ true
unfolding seed_at
seed-at zero x h = h
seed-at (suc i) x h = drawn-seed 5 (seed_at x i) (seed-at i x h)

-- the steps after the first are those of the x that it reached
pub later-seed : (x i : ℕ) → seed_at (drawn 5 x) i ≡ seed_at x (suc i)
unfolding seed_at
later-seed x zero = refl
later-seed x (suc i) = ap (drawn 5) (later-seed x i)

pub load-length : (n x number : ℕ) → length (load_from x number n) ≡ n
unfolding load_from
load-length zero x number = refl
load-length (suc n) x number = ap suc (load-length n (drawn 5 x) (suc number))

pub claim-from : (n x number i : ℕ) → i < n → get_or (load_from x number n) i no_claim ≡ load_claim (seed_at x i) (number + i)
unfolding load_from seed_at
claim-from zero x number i h = absurd (not-suc-le-zero h)
claim-from (suc n) x number zero h = let e : number ≡ number + 0 = omega tests in ap (load_claim x) e
claim-from (suc n) x number (suc i) h =
    let e : suc number + i ≡ number + suc i = omega tests in
    claim-from n (drawn 5 x) (suc number) i (le_of_suc-le-suc h) ∙ (λ j. load_claim (later-seed x i j) (e j))

pub claim-at : (x size i : ℕ) → i < size → get_or (load x size) i no_claim ≡ load_claim (seed_at x i) (suc i)
unfolding load
claim-at x size i h = let e : 1 + i ≡ suc i = omega tests in claim-from size x 1 i h ∙ ap (load_claim (seed_at x i)) e

-- a sound step is answered with its claim
pub answered : (x size number : ℕ) → seed_sound x ≡ true → size ≤ 500000 → 1 ≤ number → number ≤ size
    → load_step x size number ≡ Ok (record { claim = load_claim x number; x = drawn 5 x })
unfolding load_step step_sound
answered x size number s h l m = rw (s, le-leb size 500000 h, le-leb 1 number l, le-leb number size m)

pub steps : (x size i : ℕ) → seed_sound x ≡ true → size ≤ 500000 → i < size
    → load_step (seed_at x i) size (suc i) ≡ Ok (record { claim = get_or (load x size) i no_claim; x = seed_at x (suc i) })
unfolding seed_at
steps x size i s h l =
    answered (seed_at x i) size (suc i) (seed-at i x s) h (omega tests) (omega tests)
    ∙ (λ j. Ok (record { claim = sym (claim-at x size i l) j; x = drawn 5 (seed_at x i) }))
