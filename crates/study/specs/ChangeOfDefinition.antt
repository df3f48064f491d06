-- Document 02, request No. 6, for the study: a closed claim with code 6 has the share in both sets, and its addition and its withdrawal the answer and
-- the study, of the same claim with code 1, in every window, with every table and every study. `proofs/ChangeOfDefinition.antt` proves it
use Rattle.std.specs.Prelude.{ℕ, ◌≡◌, true, List}
use Rattle.claim_months.specs.declared.Claim.{Claim}
use Rattle.claim_months.specs.declared.Window.{Window}
use Rattle.claim_months.specs.Claim.{is_closed}
use Rattle.claim_months.specs.ChangeOfDefinition.{with_code}
use Rattle.rates.specs.declared.Kind.{Kind}
use Rattle.study.specs.declared.Study.{Study}
use Rattle.study.specs.Study.{share_of, added}
use Rattle.study.specs.design.PreparedAdding.{added_with}
use Rattle.study.specs.Withdrawing.{withdrawn}
use Rattle.study.specs.design.PreparedWithdrawing.{withdrawn_with}

pub record CountsAsRecovery (c : Claim) : Type 0 where
  pub shares : (w : Window) (rates : List ℕ) → share_of w rates c ≡ share_of w rates (with_code 1 c)
  pub additions : (s : Study) (rates : List ℕ) → added s c rates ≡ added s (with_code 1 c) rates
  pub prepared : (kind : Kind) (s : Study) (table : List ℕ) → added_with kind s c table ≡ added_with kind s (with_code 1 c) table
  pub withdrawals : (s : Study) (rates : List ℕ) → withdrawn s c rates ≡ withdrawn s (with_code 1 c) rates
  pub prepared_withdrawals : (kind : Kind) (s : Study) (table : List ℕ) → withdrawn_with kind s c table ≡ withdrawn_with kind s (with_code 1 c) table

abbrev pub ChangeOfDefinition : Type 0
ChangeOfDefinition = (c : Claim) → is_closed c ≡ true → c.code ≡ 6 → CountsAsRecovery c
