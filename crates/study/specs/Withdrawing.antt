-- Document 02, request No. 10: claims taken back.
use Rattle.std.specs.Prelude.{ℕ, ◌-◌, Bool, true, ◌&&◌, List, get_or, leb, ltb, ℤ, pos}
use Rattle.std.specs.Int.Signed.{le_z}
use Rattle.basics.specs.Pick.{pick}
use Rattle.basics.specs.Limits.{most_claims}
use Rattle.basics.specs.Tables.{every_place}
use Rattle.basics.specs.Checks.{check, ◌then◌, refuse_full, refuse_withdrawal}
use Rattle.claim_months.specs.declared.Claim.{Claim}
use Rattle.claim_months.specs.Claim.{claim_check}
use Rattle.claim_months.specs.Windows.{window_check}
use Rattle.rates.specs.Rates.{rate_check}
use Rattle.study.specs.declared.Study.{Study}
use Rattle.study.specs.Answers.{Answer}
use Rattle.study.specs.Sums.{column_at, is_count, minus, within}
use Rattle.study.specs.Study.{share_of, study_answer}

-- 9, as adding has it, save that a study of exactly 500,000 may be withdrawn from
unfoldable pub withdraw_room : Study → Bool
withdraw_room s = leb s.taken most_claims && within s.sums

-- no count of some sums, weighted or not, falls below zero if a share is taken off
unfoldable pub covers : List ℤ → List ℤ → Bool
covers s share = every_place 80 (λ k. pick (is_count (column_at k)) (le_z (get_or share k (pos 0)) (get_or s k (pos 0))) true)

-- 18: a study with no claims, or one in which a count or a weighted closing sum would fall below zero
unfoldable pub can_withdraw : Study → Claim → List ℕ → Bool
can_withdraw s c rates = ltb 0 s.taken && covers s.sums (share_of s.window rates c)

-- the number of the first check that fails, or 0: the checks of adding in their order, then 18
unfoldable pub withdraw_check : Study → Claim → List ℕ → ℕ
withdraw_check s c rates =
    window_check s.window.first.0 s.window.last.0
    then claim_check c
    then rate_check rates c.cell
    then check (withdraw_room s) refuse_full
    then check (can_withdraw s c rates) refuse_withdrawal

-- a study without one of its claims
unfoldable pub without_claim : Study → Claim → List ℕ → Study
without_claim s c rates = record { window = s.window; taken = s.taken - 1; sums = minus s.sums (share_of s.window rates c) }

-- Withdrawing takes study, claim and rates. A refusal gives its number and the study as given
unfoldable pub withdrawn : Study → Claim → List ℕ → Answer
withdrawn s c rates = study_answer (withdraw_check s c rates) s (without_claim s c rates)
