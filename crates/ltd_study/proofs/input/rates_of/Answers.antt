-- `ltd_study::input::rates_of` meets its contract: a missing file is read as an empty one. Assumes nothing.
use mathlib.Core.Path.{subst⁻¹}
use native.Mathlib.Omega.{arith}
use Rattle.ltd_study.specs.Sources.{left_of}
use Rattle.ltd_study.specs.Input.{RatesRead}
use Rattle.ltd_study.proofs.Rates.{no_rates}
use Rattle.ltd_study.proofs.input.rates_of.Goals as goal

pub returns-in-None : goal.returns-in-None
returns-in-None g c = record { rates_read = subst⁻¹ (λ f. RatesRead (left_of g.F.Source.left f) 0 c.args.table.now) c.in-None.is (no_rates g.F.Source.left c.args.table.now); upper_bound = omega arith }
