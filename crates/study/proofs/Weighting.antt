-- Claims whose benefits are 0 or 1 weigh one each: their weighted sums are their sums.
-- Assumes nothing.
use Prim.Native.Nat.{ℕ, ◌+◌, ◌≤◌, ◌<◌}
use mathlib.Core.Path.{◌≡◌, refl, sym, ap₂, ◌∙◌}
use mathlib.Core.List.{List, [], ◌∷◌}
use lib.Dec.{ltb, eqb}
use lib.IntN.{ℤ, ◌+ℤ◌}
use Rattle.basics.proofs.Tests.{tests, pick_is}
use Rattle.claim_months.specs.declared.Claim.{Claim}
use Rattle.claim_months.specs.declared.Window.{Window}
use Rattle.claim_months.specs.Claim.{weight}
use Rattle.claim_months.specs.Exposure.{MonthRecord, month_records}
use Rattle.study.specs.Sums.{group_at, column_at, times_at, none, plus}
use Rattle.study.specs.Study.{record_sums, share_of, sum_over, study_of}
use Rattle.study.specs.Weighting.{WeighsAsCounts}
use Rattle.study.proofs.Algebra.{at, each_at, none-at}
use Rattle.study.proofs.Capacity.{records-at}

weighs-one : (c : Claim) → c.benefit ≤ 1 → weight c ≡ 1
unfolding weight
weighs-one c h = pick_is (eqb c.benefit 0) (λ q. refl) (λ q. omega tests)

once : (k : ℕ) → times_at 1 k ≡ 1
unfolding times_at
once k = pick_is (ltb k 40) (λ q. refl) (λ q. refl)

-- its share is the same in both sets
records-same : (recovery death : ℕ → ℤ) (rs : List MonthRecord) (k : ℕ) → k < 40
    → at (record_sums recovery death 1 rs) (k + 40) ≡ at (record_sums recovery death 1 rs) k
records-same recovery death rs k h =
    let g : group_at (k + 40) ≡ group_at k = omega tests in
    let x : column_at (k + 40) ≡ column_at k = omega tests in
    rw (once (k + 40), g, x) at (records-at recovery death 1 rs (k + 40) (omega tests)) ∙ sym (rw (once k) at (records-at recovery death 1 rs k (omega tests)))

share-same : (w : Window) (rates : List ℕ) (c : Claim) → weight c ≡ 1 → (k : ℕ) → k < 40 → at (share_of w rates c) (k + 40) ≡ at (share_of w rates c) k
unfolding share_of
share-same w rates c e k h = rw e (records-same _ _ (month_records c w.first.0 w.last.0) k h)

pub weighs-as-counts : WeighsAsCounts
unfolding study_of sum_over
weighs-as-counts w rates [] h k l = none-at (k + 40) (omega tests) ∙ sym (none-at k (omega tests))
weighs-as-counts w rates (c ∷ cs) h k l =
    let s = share_of w rates c in
    let t = sum_over plus none (share_of w rates) cs in
    each_at ◌+ℤ◌ s t (k + 40) (omega tests)
    ∙ ap₂ ◌+ℤ◌ (share-same w rates c (weighs-one c h.0) k l) (weighs-as-counts w rates cs h.1 k l) ∙ sym (each_at ◌+ℤ◌ s t k (omega tests))
