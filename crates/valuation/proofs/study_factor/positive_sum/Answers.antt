-- `valuation::study_factor::positive_sum` meets its contract: in 128 bits nothing of the sum is lost. Assumes nothing.
use Rattle.std.proofs.Common.{arith, ◌<◌, ◌^◌, ℤ, pos, negsuc, ◌+ℤ◌, ◌≡◌, ◌∙◌, ap, refl, to_z, of_z, w64}
use Rattle.std.specs.Int.{w128, int_max}
use Rattle.std.proofs.lemmas.Int.{ints, clamps, to_z-of_z}
use lib.IntN.{nat_abs}
use lib.Signed.{mag}
use mir.Val.{SFits}
use Rattle.valuation.specs.Factor.{positive}
use Rattle.valuation.proofs.study_factor.positive_sum.Goals as goal

sum-fits : (x y : ℤ) → mag x < 2 ^ 63 → mag y < 2 ^ 63 → mag (x +ℤ y) < 2 ^ 127
sum-fits (pos a) (pos b) f g = omega arith
sum-fits (pos a) (negsuc b) f g = grind (arith, ints)
sum-fits (negsuc a) (pos b) f g = grind (arith, ints)
sum-fits (negsuc a) (negsuc b) f g = omega arith

-- the number at 128 bits
wide : (z : ℤ) → SFits w64 z → to_z w128 (of_z w128 z) ≡ z
wide z f = to_z-of_z w128 z (record { sfits = omega (arith, ints, f.sfits) })

wide-sum : (x y : ℤ) → SFits w64 x → SFits w64 y → to_z w128 (of_z w128 (x +ℤ y)) ≡ x +ℤ y
wide-sum x y f g = to_z-of_z w128 (x +ℤ y) (record { sfits = sum-fits x y f.sfits g.sfits })

of-max : (z : ℤ) → nat_abs (int_max z (pos 0)) ≡ positive z
unfolding positive
of-max (pos n) = omega (arith, ints, clamps)
of-max (negsuc n) = refl

pub returns : goal.returns
returns c =
    let x = c.args.one in
    let y = c.args.other in
    let f = c.from.ensures ∙ to_z-of_z w64 x c.ranges.one in
    let g = c.from-2.ensures ∙ to_z-of_z w64 y c.ranges.other in
    let m = rw (f, g, wide x c.ranges.one, wide y c.ranges.other, wide-sum x y c.ranges.one c.ranges.other) at c.max.ensures.value in
    ap nat_abs (to_z-of_z w128 c.max.result (record { sfits = c.max.type_inv })) ∙ ap nat_abs m ∙ of-max (x +ℤ y)
