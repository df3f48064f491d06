-- Signed numbers up to 2⁶³ − 1 in size: 64 bits hold them, and hand them back.
-- Assumes nothing.
use Prim.Native.Nat.{◌≤◌}
use mathlib.Core.Path.{◌≡◌, ap₂, ◌∙◌, subst⁻¹}
use native.Mathlib.Omega.{arith}
use lib.IntN.{ℤ, pos, negsuc, nat_abs}
use mir.Syntax.{w64}
use mir.Val.{SFits, to_z, of_z}
use mir.Facts.{to_z-of_z}

abbrev pub Small : ℤ → Type 0
Small z = nat_abs z ≤ 9223372036854775807

pub small-fits : (z : ℤ) → Small z → SFits w64 z
small-fits (pos n) h = record { sfits = omega arith }
small-fits (negsuc n) h = record { sfits = omega arith }

pub read_back : (z : ℤ) → Small z → to_z w64 (of_z w64 z) ≡ z
read_back z h = to_z-of_z (small-fits z h)

-- an operation on two numbers that are read back from their bits
module _ (f : ℤ → ℤ → ℤ) (x y : ℤ) (hx : Small x) (hy : Small y) (hf : Small (f x y)) where
  operands : f (to_z w64 (of_z w64 x)) (to_z w64 (of_z w64 y)) ≡ f x y
  operands = ap₂ f (read_back x hx) (read_back y hy)

  pub result_fits : SFits w64 (f (to_z w64 (of_z w64 x)) (to_z w64 (of_z w64 y)))
  result_fits = subst⁻¹ (SFits w64) operands (small-fits (f x y) hf)

  pub result-is : to_z w64 (of_z w64 (f (to_z w64 (of_z w64 x)) (to_z w64 (of_z w64 y)))) ≡ f x y
  result-is = to_z-of_z result_fits ∙ operands
