-- `month_starts::start` meets its contract: the table in the code is that of the definition.
-- Assumes nothing.
use mathlib.Core.Path.{◌≡◌, refl, sym}
use native.Mathlib.Omega.{arith}
use lib.ListN.{length, get_or-eq_default}
use Rattle.month_starts.specs.MonthStarts.{month_start_days}
use Rattle.month_starts.proofs.start.Goals as goal

size : length month_start_days ≡ 1801
unfolding month_start_days
size = refl

pub returns-then-place-lt1801 : goal.returns-then-place-lt1801
unfolding month_start_days
returns-then-place-lt1801 c = c.from.ensures

pub returns : goal.returns
returns c = sym (get_or-eq_default month_start_days 0 {n = c.args.month} (omega (arith, size, c.if-place-lt1801.false)))
