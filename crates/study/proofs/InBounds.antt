-- Sums within bounds, as one test and place by place.
-- Assumes nothing.
use Prim.Native.Nat.{ℕ, zero, suc, ◌+◌, ◌*◌, ◌≤◌, ◌<◌}
use mathlib.Core.Path.{◌≡◌, refl, sym, ap, ap₂, ◌∙◌}
use mathlib.Core.Bool.{Bool, true, ◌&&◌, and_assoc}
use mathlib.Core.List.{List, map, [], ◌∷◌}
use lib.Dec.{leb, ltb}
use lib.IntN.{ℤ, nat_abs}
use lib.Signed.{non_neg}
use native.Mathlib.Nat.{mul-le-mul, mul-le-mul_left}
use native.Mathlib.Nat.{add-zero}
use native.Mathlib.Numerals.{add-one}
use borrow.Author.Tests.{le-leb, leb-true}
use Rattle.std.proofs.Math.Bool.{and-true}
use Rattle.std.specs.List.{list_all, range_with_len}
use Rattle.std.proofs.lemmas.List.Folds.{list_all-append, list_all-map}
use Rattle.std.proofs.lemmas.List.FromFn.{map-range_with_len_more}
use Rattle.basics.specs.Pick.{pick}
use Rattle.basics.specs.Limits.{most_claims, most_thirtieths, most_expected, most_benefit}
use Rattle.basics.specs.Tables.{every_place}
use Rattle.basics.proofs.Tests.{tests, by, and_left, and_right}
use Rattle.basics.proofs.Tables.{every-at, every-is}
use Rattle.study.specs.declared.bounds.Bounds.{Bounds}
use Rattle.study.specs.design.Private.{bound_in, counts_in_bounds, group_in_bounds}
use Rattle.study.specs.Sums.{column_at, is_count, times_at, column_bound, in_bounds, all_in_bounds, within}
use Rattle.study.proofs.Algebra.{at}
use Rattle.study.proofs.Places.{by_column}

-- one number
module _ (n column : ℕ) (x : ℤ) where
  pub in_size : in_bounds n column x ≡ true → nat_abs x ≤ n
  unfolding in_bounds
  in_size h = leb-true (nat_abs x) n (and_left (leb (nat_abs x) n) (pick (is_count column) (non_neg x) true) h)

  pub in_count : in_bounds n column x ≡ true → is_count column ≡ true → non_neg x ≡ true
  unfolding in_bounds
  in_count h c = rw c at (and_right (leb (nat_abs x) n) (pick (is_count column) (non_neg x) true) h)

  pub in_is : nat_abs x ≤ n → (is_count column ≡ true → non_neg x ≡ true) → in_bounds n column x ≡ true
  unfolding in_bounds
  in_is h c =
      rw (le-leb (nat_abs x) n h)
      (by (is_count column) (λ t. is_count column ≡ t → pick t (non_neg x) true ≡ true) (λ q u. c u) (λ q u. refl) refl)

pub wider : (m n column : ℕ) (x : ℤ) → m ≤ n → in_bounds m column x ≡ true → in_bounds n column x ≡ true
wider m n column x h b = let s = in_size m column x b in in_is n column x (omega tests) (in_count m column x b)

-- the bound at a place, by bounds for the columns
abbrev pub place_bound : (ℕ → ℕ) → ℕ → ℕ
place_bound bound k = times_at most_benefit k * bound (column_at k)

module _ (bound : ℕ → ℕ) (s : List ℤ) where
  pub all-at : all_in_bounds bound s ≡ true → (k : ℕ) → k < 80 → in_bounds (place_bound bound k) (column_at k) (at s k) ≡ true
  unfolding all_in_bounds
  all-at h k l = every-at 80 _ h k l

  pub all-is : ((k : ℕ) → k < 80 → in_bounds (place_bound bound k) (column_at k) (at s k) ≡ true) → all_in_bounds bound s ≡ true
  unfolding all_in_bounds
  all-is h = every-is 80 _ h

-- a group's columns: its thirtieths, its counts, both of its expected sums
pub group_tests : (n : ℕ) (b : Bounds) (s : List ℤ) (first : ℕ)
    → group_in_bounds n b s first
    ≡ (((leb (nat_abs (at s first)) (n * b.thirtieths) && counts_in_bounds (n * b.count) s first) && leb (nat_abs (at s (first + 6))) (n * b.expected))
    && leb (nat_abs (at s (first + 7))) (n * b.expected))
unfolding group_in_bounds counts_in_bounds every_place in_bounds bound_in is_count
group_tests n b s first = rw (add-zero first) (simp (and-true, and_assoc))

-- wider bounds
pub all-wider : (b b' : ℕ → ℕ) (s : List ℤ) → ((column : ℕ) → b column ≤ b' column) → all_in_bounds b s ≡ true → all_in_bounds b' s ≡ true
all-wider b b' s h a =
    all-is b' s (λ k l. wider (place_bound b k) (place_bound b' k) (column_at k) (at s k) (mul-le-mul_left (times_at most_benefit k) (h (column_at k))) (all-at b s a k l))

-- a bound is at most 200 times 2.7 × 10¹⁶
pub times-most : (k : ℕ) → times_at most_benefit k ≤ most_benefit
unfolding times_at
times-most k = by (ltb k 40) (λ t. pick t 1 most_benefit ≤ most_benefit) (λ q. omega tests) (λ q. omega tests)

pub column-most : (column : ℕ) → column_bound column ≤ most_expected
unfolding column_bound
column-most column =
    by_column column (λ s t _. pick s most_claims (pick t most_thirtieths most_expected) ≤ most_expected) (λ _ _. omega tests) (λ _. omega tests)
    (omega tests) (omega tests)

-- a number of sums within the bounds of refusal 9
module _ (s : List ℤ) (h : within s ≡ true) (k : ℕ) (l : k < 80) where
  pub within-size : nat_abs (at s k) ≤ place_bound column_bound k
  within-size = in_size (place_bound column_bound k) (column_at k) (at s k) (all-at column_bound s h k l)

  pub within-high : nat_abs (at s k) ≤ most_benefit * most_expected
  within-high =
      let b : place_bound column_bound k ≤ most_benefit * most_expected = mul-le-mul (times-most k) (column-most (column_at k)) in
      let z = within-size in
      omega tests

-- a test of every place, as a walk over the range of the places makes it
pub every_in_range : (n : ℕ) (f : ℕ → Bool) → list_all f (range_with_len 0 n) ≡ every_place n f
unfolding every_place
every_in_range zero f = refl
every_in_range (suc n) f =
    sym (list_all-map (λ b. b) f (range_with_len 0 (suc n)))
    ∙ ap (λ (m : ℕ). list_all (λ b. b) (map f (range_with_len 0 m))) (sym (add-one n))
    ∙ ap (list_all (λ b. b)) (map-range_with_len_more f 0 n n (omega tests))
    ∙ list_all-append (λ b. b) (map f (range_with_len 0 n)) (f n ∷ [])
    ∙ ap₂ (λ (s t : Bool). s && t) (list_all-map (λ b. b) f (range_with_len 0 n) ∙ every_in_range n f) (and-true (f n))
