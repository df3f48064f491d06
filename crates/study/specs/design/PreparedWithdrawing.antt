-- Withdrawing with a rate table of either kind: with plain rates it is document 02's, and with the prepared table of some rates it is
-- withdrawing with these rates, number for number.
use Rattle.std.specs.Prelude.{ℕ, ◌-◌, ◌≡◌, Bool, ◌&&◌, List, ltb}
use Rattle.basics.specs.Checks.{check, ◌then◌, refuse_full, refuse_withdrawal}
use Rattle.claim_months.specs.declared.Claim.{Claim}
use Rattle.claim_months.specs.Claim.{claim_check}
use Rattle.claim_months.specs.Windows.{window_check}
use Rattle.rates.specs.declared.Kind.{Kind}
use Rattle.rates.specs.declared.Kind.TheVariants.{Plain, Prepared}
use Rattle.rates.specs.design.Prepared.{table_check_of, prepared_of}
use Rattle.study.specs.declared.Study.{Study}
use Rattle.study.specs.Answers.{Answer}
use Rattle.study.specs.Sums.{minus}
use Rattle.study.specs.Study.{study_answer}
use Rattle.study.specs.design.PreparedAdding.{share_with, lent_study}
use Rattle.study.specs.Withdrawing.{withdraw_room, covers, withdrawn}

unfoldable pub can_withdraw_with : Kind → Study → Claim → List ℕ → Bool
can_withdraw_with kind s c table = ltb 0 s.taken && covers s.sums (share_with kind s.window table c)

unfoldable pub withdraw_check_with : Kind → Study → Claim → List ℕ → ℕ
withdraw_check_with kind s c table =
    window_check s.window.first.0 s.window.last.0
    then claim_check c
    then table_check_of kind table c.cell
    then check (withdraw_room s) refuse_full
    then check (can_withdraw_with kind s c table) refuse_withdrawal

unfoldable pub withdrawn_with : Kind → Study → Claim → List ℕ → Answer
withdrawn_with kind s c table =
    study_answer (withdraw_check_with kind s c table) s (lent_study s.window (s.taken - 1) (minus s.sums (share_with kind s.window table c)))

-- for every study, claim and list of rates, refusals included; `proofs/PreparedWithdrawing.antt` proves it
pub record SameWithdrawing : Type 0 where
  pub plain : (s : Study) (c : Claim) (rates : List ℕ) → withdrawn_with Plain s c rates ≡ withdrawn s c rates
  pub prepared : (s : Study) (c : Claim) (rates : List ℕ) → withdrawn_with Prepared s c (prepared_of rates) ≡ withdrawn s c rates
