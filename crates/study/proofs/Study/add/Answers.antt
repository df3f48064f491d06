-- `study::Study::add` meets its contract: adding with plain rates is document 01's.
-- Assumes nothing.
use mathlib.Core.Path.{◌∙◌}
use Rattle.study.proofs.SameAdding.{same-adding}
use Rattle.study.proofs.Study.add.Goals as goal

pub returns : goal.returns
returns c = c.add_with.ensures ∙ same-adding.plain _ _ _
