use mathlib.Core.Path.{◌≡◌}
use Rattle.std.specs.Prelude.{Ok}
use Rattle.valuation.specs.design.Private.{totals_of}
use Rattle.valuation.proofs.reserve_limit.totals_of.Given as goal

abbrev pub invariant-loop-place : goal.invariant-loop-place
invariant-loop-place l = Ok l.totals ≡ totals_of l.rates l.list l.t l.other l.v l.place
