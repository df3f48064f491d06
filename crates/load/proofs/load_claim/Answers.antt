-- `load_claim` meets its contract: what is no step is refused, and a step gets what `loaded` gives. Assumes nothing.
use mathlib.Core.Path.{sym, ap, ◌∙◌}
use Rattle.load.specs.Load.{load_step}
use Rattle.load.proofs.load_claim.Goals as goal
use Rattle.std.specs.Prelude.{Ok}

pub returns-then-not-is_step : goal.returns-then-not-is_step
unfolding load_step
returns-then-not-is_step c = rw (sym c.is_step.ensures ∙ c.if-not-is_step.true)

pub returns : goal.returns
unfolding load_step
returns c = rw (sym c.is_step.ensures ∙ c.if-not-is_step.false) (ap Ok c.loaded.ensures)
