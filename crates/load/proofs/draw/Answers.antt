-- `draw` meets its contract. Assumes nothing.
use Rattle.load.specs.Load.{draw}
use Rattle.load.proofs.draw.Goals as goal

pub returns : goal.returns
unfolding draw
returns c = rw c.from.ensures
