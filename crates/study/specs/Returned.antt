-- What every study that a call returns has in common: days of the calendar, at most 500,000 claims taken, 80 sums. `proofs/Returned.antt` proves it.
use Rattle.std.specs.Prelude.{ℕ, ◌≤◌, ◌≡◌, List, length}
use Rattle.basics.specs.Limits.{most_claims}
use Rattle.calendar.specs.declared.Date.{Date}
use Rattle.calendar.specs.Calendar.{last_day_number}
use Rattle.claim_months.specs.declared.Claim.{Claim}
use Rattle.rates.specs.declared.Kind.{Kind}
use Rattle.study.specs.declared.Study.{Study}
use Rattle.study.specs.Answers.{Answer}
use Rattle.study.specs.Study.{opened}
use Rattle.study.specs.design.PreparedAdding.{added_with}
use Rattle.study.specs.design.PreparedWithdrawing.{withdrawn_with}
use Rattle.study.specs.Joining.{joined}

pub record Returned (s : Study) : Type 0 where
  pub first : s.window.first.0 ≤ last_day_number
  pub last : s.window.last.0 ≤ last_day_number
  pub taken : s.taken ≤ most_claims
  pub sums : length s.sums ≡ 80

-- of a study that a call returned, a call returns another; a refusal gives the study as it was given
pub record Returns (s : Study) (a : Answer) : Type 0 where
  pub returned : Returned s → Returned a.study
  pub as_given : (a.refused ≡ 0 → ⊥) → a.study ≡ s

pub record CallsReturn : Type 0 where
  pub opening : (b e : Date) → Returned (opened b e).study
  pub adding : (kind : Kind) (s : Study) (c : Claim) (table : List ℕ) → Returns s (added_with kind s c table)
  pub withdrawing : (kind : Kind) (s : Study) (c : Claim) (table : List ℕ) → Returns s (withdrawn_with kind s c table)
  pub joining : (s t : Study) → Returns s (joined s t)
