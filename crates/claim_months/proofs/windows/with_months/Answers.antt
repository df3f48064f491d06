-- `claim_months::windows::with_months` meets its contract: both days are in the calendar.
-- Assumes nothing.
use native.Mathlib.Omega.{arith}
use Rattle.claim_months.proofs.Parts.{window-bounds}
use Rattle.claim_months.proofs.windows.with_months.Goals as goal

pub with_month-requires : goal.with_month-requires
with_month-requires c = let a = c.args.window in omega (arith, window-bounds a.first.0 a.last.0 c.requires)

pub with_month-requires-2 : goal.with_month-requires-2
with_month-requires-2 c = let a = c.args.window in omega (arith, window-bounds a.first.0 a.last.0 c.requires)

pub returns : goal.returns
returns c = λ i. record { first = c.with_month.ensures i; last = c.with_month-2.ensures i }
