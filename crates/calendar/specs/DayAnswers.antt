-- What each call of the calendar answers, on every input.
use Rattle.std.specs.Prelude.{ℕ, ◌+◌, ◌-◌, Bool, ◌&&◌, leb, None, Option, Some}
use Rattle.calendar.specs.declared.Date.{Date}
use Rattle.basics.specs.declared.Day.{Day}
use Rattle.basics.specs.Pick.{pick}
use Rattle.calendar.specs.Calendar.{is_date, day_number, date_of, month_start, index_length, month_of, last_day_number, first_month, end_month}

-- the number n as a day
abbrev pub known : ℕ → Option Day
known n = Some (record { 0 = n })

-- the day number of a date; a date that isn't one has none
unfoldable pub day_of : Date → Option Day
day_of d = pick (is_date d) (known (day_number d)) None

-- the date of a day number up to 54,786; a later one has none
unfoldable pub date_at : Day → Option Date
date_at d = pick (leb d.0 last_day_number) (Some (date_of d.0)) None

-- the index of the month that holds a day up to 54,786; a later one has none
unfoldable pub month_at : Day → Option ℕ
month_at d = pick (leb d.0 last_day_number) (Some (month_of d.0)) None

-- a month index from January 1950 to January 2100
unfoldable pub is_month : ℕ → Bool
is_month i = leb first_month i && leb i end_month

-- the first day of the month with that index
unfoldable pub first_day : ℕ → Option Day
first_day i = pick (is_month i) (known (month_start i)) None

-- the last day of the month with that index
unfoldable pub last_day : ℕ → Option Day
last_day i = pick (is_month i) (known (month_start i + (index_length i - 1))) None
