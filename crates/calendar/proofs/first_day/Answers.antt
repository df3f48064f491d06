-- `calendar::first_day` meets its contract: the test of the index, and the month's entry in the table.
-- Assumes nothing.
use mathlib.Core.Path.{sym, ◌∙◌}
use native.Mathlib.Omega.{arith}
use Rattle.calendar.specs.DayAnswers.{first_day}
use Rattle.calendar.proofs.TableRule.{table-start}
use Rattle.calendar.proofs.MonthTable.{month-bounds, first-is}
use Rattle.calendar.proofs.first_day.Goals as goal

pub returns-then-not-is_month : goal.returns-then-not-is_month
unfolding first_day
returns-then-not-is_month c = simp (sym c.is_month.ensures ∙ c.if-not-is_month.true)

pub returns : goal.returns
returns c =
    let i = c.args.month in
    let b = month-bounds c.is_month.ensures c.if-not-is_month.false in
    first-is i c.start.result.0 (omega arith) (omega arith) (c.start.ensures ∙ table-start i _ (omega arith) (omega arith))

pub overflow_sub-month : goal.overflow_sub-month
overflow_sub-month c = omega (arith, month-bounds c.is_month.ensures c.if-not-is_month.false)
