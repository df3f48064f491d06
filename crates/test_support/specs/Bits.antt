-- A signed number's 64 bits as a number without sign, and the number's size.
use Rattle.std.specs.Prelude.{ℕ, ◌-◌, ◌^◌, ℤ, pos, negsuc, nat_lt}
use Rattle.basics.specs.Pick.{pick}

-- of −1 − n it is 2^64 − 1 − n
abbrev pub bits_of : ℤ → ℕ
bits_of (pos n) = n
bits_of (negsuc n) = 18446744073709551615 - n

-- bits below 2^63 are the number's own; others lack its size to 2^64
abbrev pub size_of : ℕ → ℕ
size_of b = pick (nat_lt b (2 ^ 63)) b (2 ^ 64 - b)
