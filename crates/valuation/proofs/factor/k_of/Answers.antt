-- `valuation::factor::k_of` meets its contract: K is what `of_group` picks of the four.
-- Assumes nothing.
use Rattle.valuation.specs.Factor.{group_k}
use Rattle.valuation.proofs.factor.k_of.Goals as goal

pub returns : goal.returns
unfolding group_k
returns c = c.of_group.ensures
