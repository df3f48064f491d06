-- A date from its digits.
use Rattle.std.specs.Prelude.{ℕ, ◌/◌, ◌%◌}
use Rattle.calendar.specs.declared.Date.{Date}

-- the last two digits are the day, the two before them the month, and those before them the year, in 16 bits
abbrev pub written : ℕ → Date
written n = record { year = n / 10000 % 65536; month = n / 100 % 100; day = n % 100 }
