-- Document 02, request No. 6, for valuation: a closed claim with code 6 is counted in C as the same claim with code 1 is. So added to a study, or
-- withdrawn from it, either leaves the same C, z, m and T of every group; and under category 1 it makes C of one group higher by one.
-- `proofs/ChangeOfDefinition.antt` proves it
use Rattle.std.specs.Prelude.{ℕ, ◌≤◌, ◌≡◌, true, List, eqb}
use Rattle.basics.specs.Pick.{pick}
use Rattle.claim_months.specs.declared.Claim.{Claim}
use Rattle.claim_months.specs.declared.Window.{Window}
use Rattle.claim_months.specs.Claim.{is_closed, category, claim_check}
use Rattle.claim_months.specs.Exposure.{closed_in}
use Rattle.claim_months.specs.ChangeOfDefinition.{with_code}
use Rattle.rates.specs.declared.Kind.{Kind}
use Rattle.study.specs.declared.Study.{Study}
use Rattle.study.specs.Study.{share_of}
use Rattle.study.specs.design.PreparedAdding.{added_with}
use Rattle.study.specs.design.PreparedWithdrawing.{withdrawn_with}
use Rattle.valuation.specs.StudyFactor.{terminations, study_factor}

pub record CountsInC (c : Claim) : Type 0 where
  pub shares : (w : Window) (rates : List ℕ) (g : ℕ) → terminations (share_of w rates c) g ≡ terminations (share_of w rates (with_code 1 c)) g
  pub additions : (kind : Kind) (s : Study) (table : List ℕ) (g : ℕ)
      → terminations (added_with kind s c table).study.sums g ≡ terminations (added_with kind s (with_code 1 c) table).study.sums g
  pub withdrawals : (kind : Kind) (s : Study) (table : List ℕ) (g : ℕ)
      → terminations (withdrawn_with kind s c table).study.sums g ≡ terminations (withdrawn_with kind s (with_code 1 c) table).study.sums g
  pub factors_added : (kind : Kind) (s : Study) (table : List ℕ) (g : ℕ)
      → study_factor (added_with kind s c table).study.sums g ≡ study_factor (added_with kind s (with_code 1 c) table).study.sums g
  pub factors_withdrawn : (kind : Kind) (s : Study) (table : List ℕ) (g : ℕ)
      → study_factor (withdrawn_with kind s c table).study.sums g ≡ study_factor (withdrawn_with kind s (with_code 1 c) table).study.sums g
  -- not within 45 days of the maximum date, and closed in the window
  pub one_more : (w : Window) (rates : List ℕ) → claim_check c ≡ 0 → closed_in c w.first.0 w.last.0 ≡ true → category c ≡ 1
      → (h : ℕ) × (1 ≤ h) × (h ≤ 5) × ((g : ℕ) → terminations (share_of w rates c) g ≡ pick (eqb g h) 1 0)

abbrev pub ChangeInC : Type 0
ChangeInC = (c : Claim) → is_closed c ≡ true → c.code ≡ 6 → CountsInC c
