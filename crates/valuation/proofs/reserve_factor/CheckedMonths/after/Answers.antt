-- `valuation::reserve_factor::CheckedMonths::after` meets its contract. The loop's invariant: the running values are those after n months. Assumes nothing.
use mathlib.Core.Path.{◌≡◌}
use native.Mathlib.Omega.{arith}
use native.Mathlib.Numerals.{add-one}
use Rattle.valuation.specs.Reserve.{start, running}
use Rattle.valuation.proofs.ReserveLaws.{zero_bits, one-bits, month-rate-bound}
use Rattle.valuation.proofs.reserve_factor.CheckedMonths.after.Goals as goal

pub loop-n-init : goal.loop-n-init
unfolding running start
loop-n-init c = rw (zero_bits, one-bits)

pub step-run-requires : goal.step-run-requires
step-run-requires c = rw c.month_rate.ensures (month-rate-bound _ _ _ _ _)

pub loop-n-preserved : goal.loop-n-preserved
unfolding running
loop-n-preserved c = rw (c.step-run.ensures, c.month_rate.ensures, c.loop-n.invariant, add-one)

pub returns : goal.returns
returns c =
    let e : c.loop-n.n ≡ c.args.self.now.months = omega arith in
    rw e at c.loop-n.invariant
