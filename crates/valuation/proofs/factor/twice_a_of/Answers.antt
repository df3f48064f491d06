-- `valuation::factor::twice_a_of` meets its contract: twice A is what `of_group` picks of the four.
-- Assumes nothing.
use Rattle.valuation.specs.Factor.{group_twice_a}
use Rattle.valuation.proofs.factor.twice_a_of.Goals as goal

pub returns : goal.returns
unfolding group_twice_a
returns c = c.of_group.ensures
