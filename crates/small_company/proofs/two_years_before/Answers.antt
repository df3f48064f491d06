-- `small_company::two_years_before` meets its contract: only 29 February becomes another day. Assumes nothing.
use Rattle.basics.proofs.Tests.{tests}
use Rattle.small_company.proofs.TwoYears.{leap_day, other-day, other-month}
use Rattle.small_company.proofs.two_years_before.Goals as goal
use Rattle.small_company.proofs.two_years_before.Goals.{then-date-eq2+then-date-eq29, else-date-eq2, else-date-eq2-via-then-date-eq2+else-date-eq29, else-date-eq2-via-else-date-eq2}

pub returns : goal.returns
returns c =
    elim c.if-date-eq2.branch [
      | then-date-eq2+then-date-eq29 w ↦ leap_day _ _ (omega tests) (omega tests) (omega tests) (omega tests) (omega tests)
      | else-date-eq2 w ↦
          elim w.else-date-eq2.branch [
            | else-date-eq2-via-then-date-eq2+else-date-eq29 x ↦ other-day _ _ (omega tests) (omega tests) (λ e. omega tests) (omega tests)
            | else-date-eq2-via-else-date-eq2 x ↦ other-month _ _ (omega tests) (omega tests) (λ e. omega tests) (omega tests)
          ]
    ]
