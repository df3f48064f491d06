-- `study::sums::all_within` meets its contract: a sum is in bounds where its group is.
-- Assumes nothing.
use Rattle.std.proofs.Common.{◌≡◌, ℕ, ◌+◌, ◌*◌, ◌/◌, ◌%◌, ◌<◌, Bool, true, false, ◌&&◌, List, get_or, ℤ, sym, refl, ap, ◌∙◌, arith, rules}
use Rattle.std.specs.List.{range_with_len}
use Rattle.std.proofs.lemmas.Iterator.{YieldsList-from_range}
use Rattle.std.proofs.lemmas.Iterator.Search.{all_from_yields_List}
use Rattle.basics.specs.Limits.{most_benefit}
use Rattle.basics.specs.Tables.{every_place}
use Rattle.basics.proofs.Tests.{tests, by}
use Rattle.basics.proofs.Tables.{every-at, every-is}
use Rattle.study.specs.declared.bounds.Bounds.{Bounds}
use Rattle.study.specs.Sums.{column_at, times_at, in_bounds, all_in_bounds}
use Rattle.study.specs.design.Private.{bound_in, group_in_bounds}
use Rattle.study.proofs.Algebra.{at}
use Rattle.study.proofs.InBounds.{place_bound, all-at, all-is}
use Rattle.study.proofs.Listed.{all-placed}
use Rattle.study.proofs.Places.{group-times}
use Rattle.study.proofs.sums.all_within.Goals as goal

module _ (b : Bounds) (s : List ℤ) where
  -- the test of a place, as the study has it and as its group does
  abbrev test : ℕ → Bool
  test k = in_bounds (place_bound (bound_in b) k) (column_at k) (at s k)

  abbrev group_test : ℕ → ℕ → Bool
  group_test g x = in_bounds (times_at most_benefit (8 * g) * bound_in b x) x (at s (8 * g + x))

  same_test : (g x : ℕ) → x < 8 → group_test g x ≡ test (8 * g + x)
  same_test g x h =
      let e : x ≡ (8 * g + x) % 8 = omega tests in
      λ i. in_bounds (group-times most_benefit g x h i * bound_in b (e i)) (e i) (at s (8 * g + x))

  abbrev group_passes : ℕ → Bool
  group_passes g = group_in_bounds (times_at most_benefit (8 * g)) b s (8 * g)

  each-group : all_in_bounds (bound_in b) s ≡ true → (g : ℕ) → g < 10 → group_passes g ≡ true
  unfolding group_in_bounds
  each-group u g h = every-is 8 (group_test g) (λ x l. same_test g x l ∙ all-at (bound_in b) s u (8 * g + x) (omega tests))

  each-place : every_place 10 group_passes ≡ true → (k : ℕ) → k < 80 → test k ≡ true
  unfolding group_in_bounds
  each-place u k h =
      let g : ℕ = k / 8 in
      let x : ℕ = k % 8 in
      let p : k ≡ 8 * g + x = omega tests in
      ap test p ∙ sym (same_test g x (omega tests)) ∙ every-at 8 (group_test g) (every-at 10 group_passes u g (omega tests)) x (omega tests)

  grouped : every_place 10 group_passes ≡ all_in_bounds (bound_in b) s
  grouped =
      by (all_in_bounds (bound_in b) s) (λ t. all_in_bounds (bound_in b) s ≡ t → every_place 10 group_passes ≡ t)
      (λ q u. every-is 10 group_passes (each-group u))
      (λ q u.
      by (every_place 10 group_passes) (λ t. every_place 10 group_passes ≡ t → t ≡ false)
      (λ _ v. sym (all-is (bound_in b) s (each-place v)) ∙ u) (λ _ v. refl) refl) refl

-- five tests behind a test, one after the other
behind : (a p q r s t : Bool) → (a && (((((true && p) && q) && r) && s) && t)) ≡ (((((a && p) && q) && r) && s) && t)
behind true p q r s t = refl
behind false p q r s t = refl

module _ (b : Bounds) (s : List ℤ) where
  -- a group of the first set, and one of the weighted set
  abbrev first_passes : ℕ → Bool
  first_passes g = group_in_bounds 1 b s (8 * g)

  abbrev weighted_passes : ℕ → Bool
  weighted_passes g = group_in_bounds most_benefit b s (8 * g)

  both-sets : (every_place 5 first_passes && every_place 5 (λ k. weighted_passes (get_or (range_with_len 5 5) k 0))) ≡ all_in_bounds (bound_in b) s
  unfolding every_place times_at
  both-sets =
      behind (every_place 5 first_passes) (weighted_passes 5) (weighted_passes 6) (weighted_passes 7) (weighted_passes 8) (weighted_passes 9) ∙ grouped b s

pub returns-then-all : goal.returns-then-all
unfolding every_place
returns-then-all c =
    let a = c.args in
    let b = a.bounds in
    let s = a.sums.now in
    let one : c.all.result ≡ every_place 5 (first_passes b s) =
    all_from_yields_List (first_passes b s) _ _ _ c.all.ensures.ran (YieldsList-from_range 0 5 5 refl refl) (λ x k q n. search (rules, tests))
    ∙ all-placed (first_passes b s) (range_with_len 0 5) 0 5 (omega arith) in
    let two : c.all-then-all.result ≡ every_place 5 (λ k. weighted_passes b s (get_or (range_with_len 5 5) k 0)) =
    all_from_yields_List (weighted_passes b s) _ _ _ c.all-then-all.ensures.ran (YieldsList-from_range 5 10 5 refl refl) (λ x k q n. search (rules, tests))
    ∙ all-placed (weighted_passes b s) (range_with_len 5 5) 0 5 (omega arith) in
    two ∙ ap (λ (t : Bool). t && every_place 5 (λ k. weighted_passes b s (get_or (range_with_len 5 5) k 0))) (sym c.if-all.true ∙ one) ∙ both-sets b s

pub returns-else-all : goal.returns-else-all
unfolding every_place
returns-else-all c =
    let a = c.args in
    let b = a.bounds in
    let s = a.sums.now in
    let one : c.all.result ≡ every_place 5 (first_passes b s) =
    all_from_yields_List (first_passes b s) _ _ _ c.all.ensures.ran (YieldsList-from_range 0 5 5 refl refl) (λ x k q n. search (rules, tests))
    ∙ all-placed (first_passes b s) (range_with_len 0 5) 0 5 (omega arith) in
    c.if-all.false ∙ ap (λ (t : Bool). t && every_place 5 (λ k. weighted_passes b s (get_or (range_with_len 5 5) k 0))) (sym c.if-all.false ∙ one) ∙ both-sets b s
