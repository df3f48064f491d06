-- `rates::group_last` meets its contract: the last duration of the duration's group. Assumes nothing.
use mathlib.Core.Path.{ap, ◌∙◌}
use Rattle.rates.specs.Rates.{last_of}
use Rattle.rates.proofs.Laws.{last-of-group}
use Rattle.rates.proofs.group_last.Goals as goal

pub returns : goal.returns
returns c = c.last_of.ensures ∙ ap last_of c.group.ensures ∙ last-of-group c.args.duration.0
