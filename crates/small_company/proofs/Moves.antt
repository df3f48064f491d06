-- Whether T moves far by its difference, and the first group in which it does.
-- Assumes nothing.
use Prim.Native.Nat.{ℕ, suc, ◌+◌, ◌-◌, ◌*◌, ◌<◌, ◌≤◌, min, max}
use mathlib.Core.Path.{◌≡◌, refl, sym, ap, ◌∙◌}
use mathlib.Core.Bool.{Bool, true, false, cond, not}
use mathlib.Core.List.{List, [], ◌∷◌}
use borrow.Author.Tests.{lt-ltb, le-ltb}
use lib.ListN.{length, get_or}
use lib.Dec.{ltb}
use Rattle.std.specs.Prelude.{Option, Some, None}
use Rattle.std.specs.List.{zip, position_or_len}
use Rattle.basics.specs.Pick.{pick}
use Rattle.basics.proofs.Tests.{tests, by}
use Rattle.small_company.specs.SmallCompany.{moves_far, first_moved}

module _ (new old : ℕ) where
  pub far : old < 10 * (max new old - min new old) → true ≡ moves_far new old
  unfolding moves_far
  far h = sym (lt-ltb old (10 * (max new old - min new old)) h)

  pub not-far : 10 * (max new old - min new old) ≤ old → false ≡ moves_far new old
  unfolding moves_far
  not-far h = sym (le-ltb old (10 * (max new old - min new old)) h)

-- a pair of T, and the group told at a place of the pairs from group k + 1 on
abbrev pub pair_moves : ℕ × ℕ → Bool
pair_moves p = moves_far p.0 p.1

abbrev pub told : ℕ → Option ℕ → ℕ
told k None = 0
told k (Some p) = k + p + 1

abbrev pub place_in : List (ℕ × ℕ) → Option ℕ
place_in ps = cond (ltb (position_or_len pair_moves ps) (length ps)) (Some (position_or_len pair_moves ps)) None

told-on : (k p n : ℕ) → told k (cond (ltb (1 + p) (suc n)) (Some (1 + p)) None) ≡ told (suc k) (cond (ltb p n) (Some p) None)
told-on k p n =
    by (ltb p n) (λ t. told k (cond (ltb (1 + p) (suc n)) (Some (1 + p)) None) ≡ told (suc k) (cond t (Some p) None))
    (λ q. rw (lt-ltb (1 + p) (suc n) (omega tests)) (omega tests))
    (λ q. rw (le-ltb (1 + p) (suc n) (omega tests)) refl)

-- of the groups from k + 1 on, whose T are listed: the first pair that moves is the first group that did
by-pairs : (new old xs ys : List ℕ) (k : ℕ) → length xs ≡ length ys → ((i : ℕ) → get_or new (k + i) 0 ≡ get_or xs i 0) → ((i : ℕ) → get_or old (k + i) 0 ≡ get_or ys i 0)
    → told k (place_in (zip xs ys)) ≡ first_moved new old k (length xs)
unfolding first_moved
by-pairs new old [] [] k e f g = refl
by-pairs new old [] (y ∷ ys) k e f g = absurd (omega tests)
by-pairs new old (x ∷ xs) [] k e f g = absurd (omega tests)
by-pairs new old (x ∷ xs) (y ∷ ys) k e f g =
    let z : k + 0 ≡ k = omega tests in
    let p = position_or_len pair_moves (zip xs ys) in
    let n = length (zip xs ys) in
    let a : get_or new k 0 ≡ x = ap (λ (j : ℕ). get_or new j 0) (sym z) ∙ f 0 in
    let b : get_or old k 0 ≡ y = ap (λ (j : ℕ). get_or old j 0) (sym z) ∙ g 0 in
    let on = λ (i : ℕ). let u : suc k + i ≡ k + suc i = omega tests in u in
    let rest : told (suc k) (place_in (zip xs ys)) ≡ first_moved new old (suc k) (length xs)
    = by-pairs new old xs ys (suc k) (omega tests) (λ i. ap (λ (j : ℕ). get_or new j 0) (on i) ∙ f (suc i)) (λ i. ap (λ (j : ℕ). get_or old j 0) (on i) ∙ g (suc i)) in
    rw (a, b)
    (by (moves_far x y)
    (λ t. told k (cond (ltb (cond (not t) (1 + p) 0) (suc n)) (Some (cond (not t) (1 + p) 0)) None) ≡ pick t (suc k) (first_moved new old (suc k) (length xs)))
    (λ q. rw (lt-ltb 0 (suc n) (omega tests)) (omega tests))
    (λ q. told-on k p n ∙ rest))

pub all-pairs : (new old : List ℕ) → length new ≡ 5 → length old ≡ 5 → told 0 (place_in (zip new old)) ≡ first_moved new old 0 5
all-pairs new old e f =
    let z = λ (i : ℕ). let u : 0 + i ≡ i = omega tests in u in
    by-pairs new old new old 0 (omega tests) (λ i. ap (λ (j : ℕ). get_or new j 0) (z i)) (λ i. ap (λ (j : ℕ). get_or old j 0) (z i)) ∙ ap (first_moved new old 0) e
