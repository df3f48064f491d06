-- `valuation::wanted_count::wanted_count` meets its contract: what `known_count` ensures of the positive part of E, on which alone of E the answer depends.
-- Assumes nothing.
use Prim.Native.Nat.{ℕ}
use mathlib.Core.Path.{ap, ◌∙◌}
use lib.IntN.{pos}
use mir.Facts.{to_z-of_z}
use Rattle.valuation.specs.Factor.{positive}
use Rattle.valuation.specs.WantedCount.{wanted_in}
use Rattle.valuation.proofs.WantedLaws.{wanted-of-positive}
use Rattle.valuation.proofs.wanted_count.wanted_count.Goals as goal

pub returns : goal.returns
returns c =
    let a = c.args in
    c.known_count.ensures
    ∙ ap (λ (e : ℕ). wanted_in a.group (pos e) a.wanted) (c.positive_part.ensures ∙ ap positive (to_z-of_z c.ranges.expected))
    ∙ wanted-of-positive a.group a.expected a.wanted
