-- Document 01, Calendar: the claim months of a claim.
use Rattle.std.specs.Prelude.{ℕ, ◌+◌, ◌-◌, leb}
use Rattle.basics.specs.Pick.{pick}
use Rattle.calendar.specs.Calendar.{month_length, month_index, month_start, index_length}
use Rattle.claim_months.specs.declared.Claim.{Claim}

-- the index of BCD's calendar month
unfoldable pub bcd_month : Claim → ℕ
bcd_month c = month_index c.bcd.year c.bcd.month

-- o: BCD is o days before the last day of its month
unfoldable pub days_to_month_end : Claim → ℕ
days_to_month_end c = month_length c.bcd.year c.bcd.month - c.bcd.day

-- the first day of the claim month that starts in calendar month i. If BCD's day of month is 26 or less, that day of the month;
-- if 27 or more, o days before the last day of the month
unfoldable pub start_in : Claim → ℕ → ℕ
start_in c i =
    pick (leb c.bcd.day 26) (month_start i + (c.bcd.day - 1)) (month_start i + (index_length i - 1) - days_to_month_end c)

-- The first day s of claim month k (k = 1, 2, ..): it starts in the (k − 1)th later calendar month
unfoldable pub month_first : Claim → ℕ → ℕ
month_first c k = start_in c (bcd_month c + (k - 1))

-- The last day p of claim month k: the day before the next starts
unfoldable pub month_last : Claim → ℕ → ℕ
month_last c k = month_first c (k + 1) - 1
