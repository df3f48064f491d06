-- `valuation::reserve_factor::step` meets its contract: the same operations in the same order. Assumes nothing.
use Rattle.valuation.specs.Reserve.{float, month}
use Rattle.valuation.proofs.ReserveLaws.{million-bits}
use Rattle.valuation.proofs.reserve_factor.step.Goals as goal

pub returns : goal.returns
unfolding month float
returns c = rw million-bits
