-- Document 01, Calendar: the Gregorian rule, dates, day numbers and months. Months are counted as the listing counts them, year × 12 + month − 1.
use Rattle.std.specs.Prelude.{ℕ, zero, suc, ◌+◌, ◌*◌, ◌-◌, ◌/◌, ◌%◌, Bool, not, ◌&&◌, ◌||◌, leb, ltb, eqb}
use Rattle.basics.specs.Pick.{pick}
use Rattle.calendar.specs.declared.Date.{Date}

-- every fourth year, but not every hundredth, but every four hundredth
unfoldable pub leap_year : ℕ → Bool
leap_year y = eqb (y % 4) 0 && not (eqb (y % 100) 0) || eqb (y % 400) 0

-- 28 or 29 days in February; 30 in April, June, September and November; 31 in the others
unfoldable pub month_length : ℕ → ℕ → ℕ
month_length y m =
    pick (eqb m 2) (pick (leap_year y) 29 28) (pick (eqb m 4 || eqb m 6 || eqb m 9 || eqb m 11) 30 31)

-- A date: a year, month and day, Gregorian, from 1950-01-01 to 2099-12-31
unfoldable pub is_date : Date → Bool
is_date d =
    leb 1950 d.year && leb d.year 2099 && leb 1 d.month && leb d.month 12 && leb 1 d.day
    && leb d.day (month_length d.year d.month)

-- the last day number: 2099-12-31
abbrev pub last_day_number : ℕ
last_day_number = 54786

-- the month indices of January 1950 and January 2100
abbrev pub first_month : ℕ
first_month = 23400

abbrev pub end_month : ℕ
end_month = 25200

-- the month index: year × 12 + month − 1
unfoldable pub month_index : ℕ → ℕ → ℕ
month_index y m = y * 12 + (m - 1)

-- the number of days of the month with that index
unfoldable pub index_length : ℕ → ℕ
index_length i = month_length (i / 12) (i % 12 + 1)

-- the days of the first k months from January 1950 on
unfoldable pub days_before : ℕ → ℕ
days_before zero = 0
days_before (suc k) = days_before k + index_length (first_month + k)

-- the first day of the month with that index
unfoldable pub month_start : ℕ → ℕ
month_start i = days_before (i - first_month)

-- The day number of a date: 1950-01-01 is 0
unfoldable pub day_number : Date → ℕ
day_number d = month_start (month_index d.year d.month) + (d.day - 1)

-- the day after a date
unfoldable pub next_date : Date → Date
next_date d =
    pick (ltb d.day (month_length d.year d.month)) (record { year = d.year; month = d.month; day = d.day + 1 })
    (pick (ltb d.month 12) (record { year = d.year; month = d.month + 1; day = 1 }) (record { year = d.year + 1; month = 1; day = 1 }))

-- The date of a day number: that many days after 1950-01-01
unfoldable pub date_of : ℕ → Date
date_of zero = record { year = 1950; month = 1; day = 1 }
date_of (suc n) = next_date (date_of n)

-- the index of the month that holds a day
unfoldable pub month_of : ℕ → ℕ
month_of n = month_index (date_of n).year (date_of n).month
