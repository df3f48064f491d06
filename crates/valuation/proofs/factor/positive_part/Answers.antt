-- `valuation::factor::positive_part` meets its contract: E is read back from its bits, and its sign decides.
-- Assumes nothing.
use mathlib.Core.Path.{◌≡◌, refl}
use mathlib.Core.Bool.{cond}
use lib.Dec.{ltb}
use lib.IntN.{ℤ, pos, negsuc, nat_abs}
use mir.Syntax.{w64}
use mir.Val.{SFits}
use mir.Facts.{to_z-of_z}
use Rattle.basics.proofs.Tests.{tests, by}
use Rattle.std.specs.Int.{int_max}
use Rattle.valuation.specs.Factor.{positive}
use Rattle.valuation.proofs.factor.positive_part.Goals as goal

size : (z : ℤ) → nat_abs (int_max z (pos 0)) ≡ positive z
unfolding positive
size (pos n) = by (ltb 0 n) (λ t. nat_abs (cond t (pos n) (pos 0)) ≡ n) (λ q. refl) (λ q. omega tests)
size (negsuc n) = refl

pub returns : goal.returns
returns c =
    let larger = rw (to_z-of_z c.ranges.expected) at c.max.ensures.value in
    let fits : SFits w64 c.max.result = record { sfits = c.max.type_inv } in
    rw (to_z-of_z fits, larger) (size c.args.expected)
