-- Document 01, Claim file: numbers and dates in bytes, low byte first.
use Rattle.std.specs.Prelude.{ℕ, zero, suc, ◌+◌, ◌*◌, ◌/◌, ◌%◌, Bool, true, ◌&&◌, List, [], ◌∷◌, get_or, eqb}
use Rattle.calendar.specs.declared.Date.{Date}

-- byte i, and numbers of two and four bytes from byte i on
unfoldable pub byte_at : List ℕ → ℕ → ℕ
byte_at bytes i = get_or bytes i 0

unfoldable pub two_at : List ℕ → ℕ → ℕ
two_at bytes i = byte_at bytes i + 256 * byte_at bytes (i + 1)

unfoldable pub four_at : List ℕ → ℕ → ℕ
four_at bytes i = two_at bytes i + 65536 * two_at bytes (i + 2)

-- a date: year 2 bytes, month, day
unfoldable pub date_from : List ℕ → ℕ → Date
date_from bytes i = record { year = two_at bytes i; month = byte_at bytes (i + 2); day = byte_at bytes (i + 3) }

-- the n bytes from byte i on are zero
unfoldable pub zero_from : List ℕ → ℕ → ℕ → Bool
zero_from bytes i zero = true
zero_from bytes i (suc n) = eqb (byte_at bytes i) 0 && zero_from bytes (suc i) n

-- the bytes of a number of two bytes, of a date, and n zeros
abbrev pub two : ℕ → List ℕ
two n = n % 256 ∷ n / 256 % 256 ∷ []

abbrev pub date_bytes : Date → List ℕ
date_bytes d = d.year % 256 ∷ d.year / 256 % 256 ∷ d.month ∷ d.day ∷ []

unfoldable pub zeros : ℕ → List ℕ
zeros zero = []
zeros (suc n) = 0 ∷ zeros n
