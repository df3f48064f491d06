use mathlib.Core.Path.{◌≡◌}
use Rattle.valuation.specs.Reserve.{running}
use Rattle.valuation.proofs.reserve_factor.CheckedMonths.after.Given as goal

abbrev pub invariant-loop-n : goal.invariant-loop-n
invariant-loop-n l = l.run ≡ running l.self.rates.now l.self.cell.0 l.self.first.0 l.t l.self.v l.n
