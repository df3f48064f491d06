-- A claim's share is what adding it makes of no sums.
-- Assumes nothing.
use Prim.Native.Nat.{ℕ}
use mathlib.Core.Path.{◌≡◌, refl, sym, ap, ◌∙◌}
use mathlib.Core.Bool.{true}
use mathlib.Core.List.{List, []}
use lib.Dec.{eqb}
use borrow.Author.Tests.{eqb-true, eq-eqb}
use Rattle.basics.specs.Checks.{◌then◌}
use Rattle.basics.proofs.Tests.{tests, pick_is}
use Rattle.claim_months.specs.declared.Claim.{Claim}
use Rattle.claim_months.specs.declared.Window.{Window}
use Rattle.claim_months.specs.Claim.{claim_check, weight}
use Rattle.claim_months.specs.Windows.{window_check}
use Rattle.rates.specs.declared.Kind.{Kind}
use Rattle.rates.specs.design.Prepared.{table_check_of}
use Rattle.study.specs.Sums.{none, within}
use Rattle.study.specs.Study.{sum_over, study_of}
use Rattle.study.specs.design.PreparedAdding.{share_with, lent_study}
use Rattle.study.specs.design.LentAdding.{add_check_told, added_to_lent}
use Rattle.study.specs.design.Private.{share_number}
use Rattle.study.proofs.Algebra.{Shaped, plus_none}
use Rattle.study.proofs.Capacity.{records-shaped, built-within}
use Rattle.study.proofs.LentAdding.{guarded-plus}

then-zero : (n : ℕ) → (n then 0) ≡ n
unfolding ◌then◌
then-zero n = pick_is (eqb n 0) (λ q. sym (eqb-true n 0 q)) (λ q. refl)

module _ (kind : Kind) (c : Claim) (w : Window) (table : List ℕ) where
  -- check 9 passes, so the number is the claim's own
  own-check : add_check_told true kind (lent_study w 0 none) c table ≡ share_number kind c w table
  unfolding add_check_told share_number
  own-check = ap (λ (n : ℕ). window_check w.first.0 w.last.0 then claim_check c then n) (then-zero (table_check_of kind table c.cell))

  pub alone-number : (added_to_lent true kind table c (lent_study w 0 none)).refused ≡ share_number kind c w table
  unfolding added_to_lent
  alone-number = own-check

  -- no sums are within the bounds
  none_within : within none ≡ true
  unfolding study_of sum_over
  none_within = built-within w table [] tt (omega tests)

  share-shaped : Shaped (share_with kind w table c)
  unfolding share_with
  share-shaped = records-shaped _ _ (weight c) _

  pub alone-share : share_number kind c w table ≡ 0 → (added_to_lent true kind table c (lent_study w 0 none)).study.sums ≡ share_with kind w table c
  unfolding added_to_lent
  alone-share e =
      let share = share_with kind w table c in
      rw (eq-eqb (add_check_told true kind (lent_study w 0 none) c table) 0 (own-check ∙ e))
      (guarded-plus none share none_within ∙ plus_none share share-shaped)
