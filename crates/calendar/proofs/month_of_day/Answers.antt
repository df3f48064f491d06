-- `calendar::month_of_day` meets its contract: the test of the number, and its month.
-- Assumes nothing.
use native.Mathlib.Omega.{arith}
use borrow.Author.Tests.{le-leb, lt-leb}
use Rattle.calendar.specs.Calendar.{last_day_number}
use Rattle.calendar.specs.DayAnswers.{month_at}
use Rattle.calendar.proofs.Laws.{month-of-high}
use Rattle.calendar.proofs.month_of_day.Goals as goal

pub returns-then-number-gt-LAST_DAY : goal.returns-then-number-gt-LAST_DAY
unfolding month_at
returns-then-number-gt-LAST_DAY c = simp (lt-leb c.args.day.0 last_day_number (omega arith))

pub overflow_add-result : goal.overflow_add-result
overflow_add-result c = omega (arith, month-of-high c.args.day.0 (omega arith))

pub returns : goal.returns
unfolding month_at
returns c = simp (le-leb c.args.day.0 last_day_number (omega arith), c.month_of.ensures)
