-- Signed numbers of the listing: 32 bits hold them, and hand them back.
-- Assumes nothing.
use Prim.Native.Nat.{ℕ, ◌≤◌, ◌<◌}
use mathlib.Core.Path.{◌≡◌, ap, ◌∙◌}
use native.Mathlib.Omega.{arith}
use lib.IntN.{ℤ, pos, negsuc, nat_abs, sub_ℕ}
use mir.Syntax.{w32}
use mir.Val.{SFits, to_z, of_z}
use mir.Facts.{to_z-of_z}
use Rattle.basics.proofs.Integers.{size-sub}

pub small-fits : (z : ℤ) → nat_abs z < 2147483648 → SFits w32 z
small-fits (pos n) h = record { sfits = h }
small-fits (negsuc n) h = record { sfits = omega arith }

-- a number that comes out as z is read back from its bits as z
pub read_back : (x z : ℤ) → x ≡ z → nat_abs z < 2147483648 → to_z w32 (of_z w32 x) ≡ z
read_back x z e h = ap (λ (y : ℤ). to_z w32 (of_z w32 y)) e ∙ to_z-of_z (small-fits z h)

-- the size of a difference of two numbers up to 30
pub difference-size : (a b : ℕ) → a ≤ 30 → b ≤ 30 → nat_abs (sub_ℕ a b) < 2147483648
difference-size a b ha hb = omega (arith, size-sub a b 30 ha hb)
