-- `valuation::rate::rate_of` meets its contract: the table's law bounds the two rates together.
-- Assumes nothing.
use Prim.Native.Nat.{◌+◌, ◌≤◌}
use native.Mathlib.Omega.{arith}
use Rattle.rates.proofs.Laws.{rates-bound}
use Rattle.valuation.specs.Rate.{valuation_rate}
use Rattle.valuation.proofs.rate.rate_of.Goals as goal

pub overflow_add-recovery : goal.overflow_add-recovery
overflow_add-recovery c =
    let both : c.recovery.result + c.death.result ≤ 1000000 = omega (arith, rates-bound c.args.rates.now c.args.cell.0 c.args.duration.0 c.requires) in
    omega (arith, both)

pub returns : goal.returns
unfolding valuation_rate
returns c =
    let scaled = rw (c.recovery.ensures, c.death.ensures) at c.scaled.ensures in
    omega arith
