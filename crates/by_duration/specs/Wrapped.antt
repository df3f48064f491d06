-- Numbers of 64 bits. With rates that passed check 8 no number of the rows passes 2.7 × 10¹⁶; with a list that was never prepared but has the mark
-- the last row can pass 64 bits, and is then given modulo 2⁶⁴.
use Rattle.std.specs.Prelude.{ℕ, ◌-◌, ◌%◌, ℤ, pos, negsuc}
use Rattle.std.specs.Int.{w64}
use Rattle.std.proofs.Common.{to_z}

-- the number from 0 to 2⁶⁴ − 1 that is congruent to x modulo 2⁶⁴
unfoldable pub residue : ℤ → ℕ
residue (pos n) = n % 18446744073709551616
residue (negsuc n) = 18446744073709551615 - n % 18446744073709551616

-- the signed number of 64 bits that is congruent to x
unfoldable pub as64 : ℤ → ℤ
as64 x = to_z w64 (residue x)
