-- `claim_months::sound_claim::month_index` meets its contract: a date has a month from 1 on.
-- Assumes nothing.
use native.Mathlib.Omega.{arith}
use Rattle.calendar.specs.Calendar.{month_index}
use Rattle.calendar.proofs.Laws.{date-bounds}
use Rattle.claim_months.proofs.sound_claim.month_index.Goals as goal

pub overflow_sub-result : goal.overflow_sub-result
overflow_sub-result c = omega (arith, date-bounds _ c.requires)

pub returns : goal.returns
unfolding month_index
returns c = rw (c.from.ensures, c.from-2.ensures)
