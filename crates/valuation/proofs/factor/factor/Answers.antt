-- `valuation::factor::factor` meets its contract: what `known_factor` ensures of the positive part of E, on which alone of E the answer depends.
-- Assumes nothing.
use Prim.Native.Nat.{ℕ}
use mathlib.Core.Path.{ap, ◌∙◌}
use lib.IntN.{pos}
use mir.Facts.{to_z-of_z}
use Rattle.valuation.specs.Factor.{positive, factor_in}
use Rattle.valuation.proofs.Laws.{of_positive}
use Rattle.valuation.proofs.factor.factor.Goals as goal

pub returns : goal.returns
returns c =
    let a = c.args in
    let known = rw c.from.ensures at c.known_factor.ensures in
    known
    ∙ ap (λ (e : ℕ). factor_in a.group a.terminations (pos e)) (c.positive_part.ensures ∙ ap positive (to_z-of_z c.ranges.expected))
    ∙ of_positive a.group a.terminations a.expected
