-- `count_from` meets its contract. Assumes nothing.
use native.Mathlib.Omega.{arith}
use Rattle.ltd_load.specs.design.Private.{count_from}
use Rattle.ltd_load.proofs.output.DueClaim.count.Goals as goal

pub returns : goal.returns
unfolding count_from
returns c = omega (arith, c.min.ensures, c.args.self.due.number_high)
