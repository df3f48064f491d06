-- Marks: one bit set, and which numbers of a list stand again behind them, by their places.
-- Assumes nothing.
use Prim.Native.Nat.{ℕ, zero, suc, ◌+◌, ◌-◌, ◌*◌, ◌/◌, ◌%◌, ◌^◌, ◌≤◌, ◌<◌}
use mathlib.Core.Path.{◌≡◌, refl, sym, ap, ◌∙◌}
use mathlib.Core.Bool.{Bool, true, false, ◌||◌, false≢true}
use mathlib.Core.List.{List, [], ◌∷◌}
use native.Mathlib.Omega.{arith}
use native.Mathlib.Nat.{zero-div}
use lib.ListN.{length, get_or, set, take, drop, replicate, length-take, length-drop}
use lib.Seq.{get_or-set_same, get_or-set_other, get_or-take, get_or-drop, take-length}
use lib.Dec.{eqb, ltb}
use lib.Bits.{bit_or, or_shr, or_mod, or_zero_l, or_zero_r, or_self}
use borrow.Author.Tests.{eqb-true, eqb-false, eq-eqb, ne_eqb}
use Rattle.std.specs.List.Sorted.{IsPermutation}
use Rattle.std.proofs.lemmas.List.Sorted.{IsPermutation-sym, length_permutation}
use Rattle.basics.specs.Pick.{pick}
use Rattle.basics.proofs.Tests.{by, tests, all_below, all-at}
use Rattle.claim_file.specs.design.Marks.{among, struck, marked, repeated, key_of, most_key, KeysTaken, KeyAt, ChunkKeys, HasLater, MarksTo, MarksBetween, AllZero}
use Rattle.claim_file.proofs.Sorting.{key-moved}

-- bit j of the m-th power of two, of eight bits
abbrev power_bit : ℕ → ℕ → Bool
power_bit m j = eqb (2 ^ m / 2 ^ j % 2) (pick (eqb m j) 1 0)

power-bit : (m j : ℕ) → m < 8 → j < 8 → 2 ^ m / 2 ^ j % 2 ≡ pick (eqb m j) 1 0
power-bit m j h l =
    eqb-true _ _ (all-at (power_bit m) 8 (all-at (λ k. all_below (power_bit k) 8) 8 refl m h) j l)

-- a bit of two numbers' bits together
or-bit : (a b j : ℕ) → bit_or a b / 2 ^ j % 2 ≡ bit_or (a / 2 ^ j % 2) (b / 2 ^ j % 2)
or-bit a b j = ap (λ (n : ℕ). n % 2) (or_shr a b j) ∙ or_mod (a / 2 ^ j) (b / 2 ^ j) 1

or-one : (x : ℕ) → x < 2 → bit_or x 1 ≡ 1
or-one zero h = or_zero_l 1
or-one (suc zero) h = or_self 1
or-one (suc (suc x)) h = absurd (omega arith)

-- the bit that is set, and another
bit-set : (a m : ℕ) → m < 8 → bit_or a (2 ^ m) / 2 ^ m % 2 ≡ 1
bit-set a m h =
    or-bit a (2 ^ m) m
    ∙ ap (bit_or (a / 2 ^ m % 2)) (power-bit m m h h ∙ ap (λ (t : Bool). pick t 1 0) (eq-eqb m m refl))
    ∙ or-one (a / 2 ^ m % 2) (omega arith)

bit-other : (a m j : ℕ) → m < 8 → j < 8 → (m ≡ j → ⊥) → bit_or a (2 ^ m) / 2 ^ j % 2 ≡ a / 2 ^ j % 2
bit-other a m j h l d =
    or-bit a (2 ^ m) j
    ∙ ap (bit_or (a / 2 ^ j % 2)) (power-bit m j h l ∙ ap (λ (t : Bool). pick t 1 0) (ne_eqb m j d))
    ∙ or_zero_r (a / 2 ^ j % 2)

-- the power is below 256, as the byte that is stored has it
power-byte : (m : ℕ) → m < 8 → 1 * 2 ^ m % 256 ≡ 2 ^ m
power-byte m h = eqb-true _ _ (all-at (λ k. eqb (1 * 2 ^ k % 256) (2 ^ k)) 8 refl m h)

-- a bitmap with one bit set
pub mark_set : (marks : List ℕ) (i k : ℕ) → i < 8 * length marks
    → marked (set marks (i / 8) (bit_or (get_or marks (i / 8) 0) (1 * 2 ^ (i % 8) % 256))) k ≡ (eqb k i || marked marks k)
unfolding marked
mark_set marks i k h =
    let b = bit_or (get_or marks (i / 8) 0) (1 * 2 ^ (i % 8) % 256) in
    let power = power-byte (i % 8) (omega arith) in
    by (eqb (k / 8) (i / 8)) (λ _. eqb (get_or (set marks (i / 8) b) (k / 8) 0 / 2 ^ (k % 8) % 2) 1 ≡ (eqb k i || eqb (get_or marks (k / 8) 0 / 2 ^ (k % 8) % 2) 1))
    (λ e.
    let q : k / 8 ≡ i / 8 = omega tests in
    let stored : get_or (set marks (i / 8) b) (k / 8) 0 ≡ bit_or (get_or marks (k / 8) 0) (2 ^ (i % 8)) =
    ap (λ (n : ℕ). get_or (set marks (i / 8) b) n 0) q
    ∙ get_or-set_same marks (i / 8) b 0 (omega arith)
    ∙ ap (bit_or (get_or marks (i / 8) 0)) power
    ∙ ap (λ (n : ℕ). bit_or (get_or marks n 0) (2 ^ (i % 8))) (sym q) in
    by (eqb k i) (λ t. eqb (get_or (set marks (i / 8) b) (k / 8) 0 / 2 ^ (k % 8) % 2) 1 ≡ (t || eqb (get_or marks (k / 8) 0 / 2 ^ (k % 8) % 2) 1))
    (λ f. let same : k % 8 ≡ i % 8 = omega tests in rw (stored, same) (eq-eqb _ _ (bit-set (get_or marks (k / 8) 0) (i % 8) (omega arith))))
    (λ f.
    let d : i % 8 ≡ k % 8 → ⊥ = λ w. omega tests in
    ap (λ (n : ℕ). eqb n 1) (ap (λ (n : ℕ). n / 2 ^ (k % 8) % 2) stored ∙ bit-other (get_or marks (k / 8) 0) (i % 8) (k % 8) (omega arith) (omega arith) d)))
    (λ e.
    let d : k / 8 ≡ i / 8 → ⊥ = eqb-false _ _ e in
    rw (ne_eqb k i (λ w. d (ap (λ (n : ℕ). n / 8) w)), get_or-set_other marks (i / 8) (k / 8) b 0 d) refl)

-- zeros are a bitmap of zeros, which marks nothing
pub zeros-zero : (n : ℕ) → AllZero (replicate n 0)
zeros-zero zero i = refl
zeros-zero (suc n) zero = refl
zeros-zero (suc n) (suc i) = zeros-zero n i

none-marked : (marks : List ℕ) → AllZero marks → (i : ℕ) → marked marks i ≡ false
unfolding marked
none-marked marks z i =
    let e : get_or marks (i / 8) 0 / 2 ^ (i % 8) % 2 ≡ 0 = ap (λ (n : ℕ). n / 2 ^ (i % 8) % 2) (z (i / 8)) ∙ ap (λ (n : ℕ). n % 2) (zero-div (2 ^ (i % 8))) in
    ne_eqb (get_or marks (i / 8) 0 / 2 ^ (i % 8) % 2) 1 (λ q. omega arith)

-- a number is among some where it stands at a place
among_in : (x : ℕ) (ys : List ℕ) (k : ℕ) → k < length ys → get_or ys k 0 ≡ x → among x ys ≡ true
unfolding among
among_in x [] k h e = absurd (omega arith)
among_in x (y ∷ ys) zero h e = rw (eq-eqb y x e)
among_in x (y ∷ ys) (suc k) h e = by (eqb y x) (λ t. (t || among x ys) ≡ true) (λ _. refl) (λ _. among_in x ys k (omega arith) e)

among-out : (x : ℕ) (ys : List ℕ) → among x ys ≡ true → KeyAt ys x
unfolding among
among-out x [] e = absurd (false≢true e)
among-out x (y ∷ ys) e =
    by (eqb y x) (λ t. (t || among x ys) ≡ true → KeyAt (y ∷ ys) x)
    (λ u _. record { place = 0; within = omega arith; same = sym (eqb-true y x u) })
    (λ u w. let p = among-out x ys w in record { place = suc p.place; within = omega (arith, p.within); same = p.same })
    e

-- the number at place i stands again among the first e, and where
repeated-in : (xs : List ℕ) (i j e : ℕ) → i < j → j < e → j < length xs → get_or xs j 0 ≡ get_or xs i 0 → repeated xs i e ≡ true
unfolding repeated
repeated-in xs i j e a b l q =
    let k = j - suc i in
    let s : suc i + k ≡ j = omega arith in
    among_in (get_or xs i 0) (drop (suc i) (take e xs)) k (omega (arith, length-drop (suc i) (take e xs), length-take e xs))
    (get_or-drop (suc i) (take e xs) k 0 ∙ ap (λ (n : ℕ). get_or (take e xs) n 0) s ∙ get_or-take e xs j 0 b ∙ q)

record Again (xs : List ℕ) (i e : ℕ) : Type 0 where
  at : ℕ
  behind : i < at
  before : at < e
  within : at < length xs
  is : get_or xs at 0 ≡ get_or xs i 0

repeated-out : (xs : List ℕ) (i e : ℕ) → repeated xs i e ≡ true → Again xs i e
unfolding repeated
repeated-out xs i e h =
    let p = among-out (get_or xs i 0) (drop (suc i) (take e xs)) h in
    let l = length-drop (suc i) (take e xs) in
    let m = length-take e xs in
    let w = p.within in
    let b : suc i + p.place < e = omega arith in
    record {
      at = suc i + p.place;
      behind = omega arith;
      before = b;
      within = omega arith;
      is = sym (p.same ∙ get_or-drop (suc i) (take e xs) p.place 0 ∙ get_or-take e xs (suc i + p.place) 0 b);
    }

pub repeated-past : (xs : List ℕ) (i e : ℕ) → e ≤ suc i → repeated xs i e ≡ false
repeated-past xs i e h =
    by (repeated xs i e) (λ t. t ≡ false) (λ u. let a = repeated-out xs i e u in absurd (omega (arith, a.behind, a.before))) (λ _. refl)

repeated-on : (xs : List ℕ) (i s e : ℕ) → s ≤ e → repeated xs i s ≡ true → repeated xs i e ≡ true
repeated-on xs i s e h t =
    let a = repeated-out xs i s t in
    let b = a.before in
    repeated-in xs i a.at e a.behind (omega arith) a.within a.is

repeated-all : (xs : List ℕ) (i : ℕ) → repeated xs i (length xs) ≡ struck xs i
unfolding repeated struck
repeated-all xs i = ap (λ (ys : List ℕ). among (get_or xs i 0) (drop (suc i) ys)) (take-length xs)

-- what the keys of a chunk, the last records before e, say of record i before e
module _ (xs keys : List ℕ) (s e i : ℕ) (c : ChunkKeys xs s keys) (q : s + length keys ≡ e) (h : i < e) (l : e ≤ length xs) (m : e ≤ 65536) (r : Bool)
    (f : HasLater keys (key_of (get_or xs i 0) i) r) where
  pub later-is : r ≡ true → repeated xs i e ≡ true
  later-is t =
      let w = f.found t in
      let j = c.there w.place w.within in
      let is = j.is in
      let to = j.to in
      let later = w.later in
      let same = w.same in
      repeated-in xs i j.index e (omega arith) (omega arith) (omega arith) (omega arith)

  pub later-not : r ≡ false → repeated xs i s ≡ repeated xs i e
  later-not t =
      by (repeated xs i e) (λ b. repeated xs i s ≡ b)
      (λ u.
      let a = repeated-out xs i e u in
      let behind = a.behind in
      let before = a.before in
      by (ltb a.at s) (λ _. repeated xs i s ≡ true)
      (λ v. repeated-in xs i a.at s behind (omega tests) a.within a.is)
      (λ v.
      let k = c.back a.at (omega tests) (omega arith) in
      let same = k.same in
      let is = a.is in
      absurd
      (false≢true
      (sym t ∙ f.missed (record { place = k.place; within = k.within; later = omega arith; same = omega arith })))))
      (λ u.
      by (repeated xs i s) (λ b. b ≡ false) (λ v. absurd (false≢true (sym u ∙ repeated-on xs i s e (omega arith) v))) (λ _. refl))

-- a bitmap while the records before s are looked up in a chunk up to e: those before i have been
pub between_first : (marks xs : List ℕ) (s e : ℕ) → MarksTo marks xs s → MarksBetween marks xs 0 s e
between_first marks xs s e h = record { done = λ k l. absurd (omega arith); left = λ k l. h k }

pub between-set : (marks after xs : List ℕ) (i s e : ℕ) → MarksBetween marks xs i s e → repeated xs i e ≡ true
    → ((k : ℕ) → marked after k ≡ (eqb k i || marked marks k)) → MarksBetween after xs (i + 1) s e
between-set marks after xs i s e b t f =
    record {
      done = λ k l.
          by (eqb k i) (λ z. marked after k ≡ (z || marked marks k) → marked after k ≡ repeated xs k e)
          (λ u v. let q : k ≡ i = omega tests in v ∙ sym (ap (λ (n : ℕ). repeated xs n e) q ∙ t))
          (λ u v. v ∙ b.done k (omega tests))
          (f k);
      left = λ k l. f k ∙ ap (λ (z : Bool). z || marked marks k) (ne_eqb k i (λ q. omega arith)) ∙ b.left k (omega arith);
    }

pub between-marked : (marks xs : List ℕ) (i s e : ℕ) → s ≤ e → MarksBetween marks xs i s e → marked marks i ≡ true → repeated xs i s ≡ repeated xs i e
between-marked marks xs i s e h b t =
    let r : repeated xs i s ≡ true = sym (b.left i (omega arith)) ∙ t in
    r ∙ sym (repeated-on xs i s e h r)

pub between-same : (marks xs : List ℕ) (i s e : ℕ) → MarksBetween marks xs i s e → repeated xs i s ≡ repeated xs i e → MarksBetween marks xs (i + 1) s e
between-same marks xs i s e b t =
    record {
      done = λ k l.
          by (eqb k i) (λ _. marked marks k ≡ repeated xs k e)
          (λ u. let q : k ≡ i = omega tests in rw q (b.left i (omega arith) ∙ t))
          (λ u. b.done k (omega tests));
      left = λ k l. b.left k (omega arith);
    }

-- a bitmap of zeros before any record, and the bitmap after all
pub marks-first : (marks xs : List ℕ) → AllZero marks → MarksTo marks xs 0
marks-first marks xs z i = none-marked marks z i ∙ sym (repeated-past xs i 0 (omega arith))

pub marks-last : (marks xs : List ℕ) → MarksTo marks xs (length xs) → (i : ℕ) → marked marks i ≡ struck xs i
marks-last marks xs h i = h i ∙ repeated-all xs i

-- keys of a chunk have 48 bits
pub keys-fit : (xs keys : List ℕ) (s : ℕ) → s + length keys ≤ 65536 → ((k : ℕ) → get_or xs k 0 < 4294967296) → ChunkKeys xs s keys
    → (k : ℕ) → k < length keys → get_or keys k 0 < most_key
keys-fit xs keys s h f c k l = let j = c.there k l in omega (arith, j.to, j.is, f j.index)

-- the keys of some records, taken and sorted
pub chunk-keys : (xs keys sorted : List ℕ) (s : ℕ) → KeysTaken (drop s xs) s (length keys) keys → IsPermutation keys sorted → ChunkKeys xs s sorted
chunk-keys xs keys sorted s t m =
    let l : length sorted ≡ length keys = length_permutation keys sorted m in
    let key : (p : ℕ) → p < length keys → get_or keys p 0 ≡ key_of (get_or xs (s + p) 0) (s + p) = λ p h.
    t p h ∙ ap (λ (x : ℕ). key_of x (s + p)) (get_or-drop s xs p 0) in
    record {
      there = λ p h.
          let k = key-moved sorted keys (IsPermutation-sym keys sorted m) p h in
          let w = k.within in
          record { index = s + k.place; from = omega arith; to = omega arith; is = k.same ∙ key k.place w };
      back = λ j a b.
          let p = j - s in
          let e : s + p ≡ j = omega arith in
          let k = key-moved keys sorted m p (omega arith) in
          record {
            place = k.place;
            within = k.within;
            same = ap (λ (i : ℕ). key_of (get_or xs i 0) i) (sym e) ∙ sym (key p (omega arith)) ∙ k.same;
          };
    }
