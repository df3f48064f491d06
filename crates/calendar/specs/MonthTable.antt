-- Document 02, No. 5: the table of month starts agrees with the calendar's rule, for each date in range and for each day number, both ways.
use Rattle.std.specs.Prelude.{ℕ, suc, ◌+◌, ◌-◌, ◌/◌, ◌%◌, ◌≤◌, ◌<◌, ◌≡◌, true, length, get_or, Some}
use Rattle.month_starts.specs.MonthStarts.{month_start_days}
use Rattle.calendar.specs.declared.Date.{Date}
use Rattle.calendar.specs.Calendar.{is_date, month_index, index_length, month_start, day_number, last_day_number, first_month, end_month}
use Rattle.calendar.specs.DayAnswers.{known, day_of, date_at, month_at, first_day, last_day}

-- entry k of the table, k months after January 1950; 0 past its end
abbrev pub entry : ℕ → ℕ
entry k = get_or month_start_days k 0

-- by the table, day n is in the month k after January 1950
pub record InEntry (k n : ℕ) : Type 0 where
  pub from : entry k ≤ n
  pub to : n < entry (suc k)

-- the date of day n in that month
abbrev pub date_by_table : ℕ → ℕ → Date
date_by_table k n = record { year = (first_month + k) / 12; month = (first_month + k) % 12 + 1; day = n - entry k + 1 }

-- the day number of a date
abbrev pub number_by_table : Date → ℕ
number_by_table d = entry (month_index d.year d.month - first_month) + (d.day - 1)

-- a date: its number by the table is the rule's, it is what the call answers, and the call answers that number with the date
pub record DateByTable (d : Date) : Type 0 where
  pub number : number_by_table d ≡ day_number d
  pub answer : day_of d ≡ known (number_by_table d)
  pub back : date_at (record { 0 = number_by_table d }) ≡ Some d

-- a day number: exactly one month holds it by the table, and the calls answer with that month and with the date found in it; that date has the number
pub record DayByTable (n : ℕ) : Type 0 where
  pub place : ℕ
  pub below : place < 1800
  pub held : InEntry place n
  pub only : (k : ℕ) → InEntry k n → k ≡ place
  pub month : month_at (record { 0 = n }) ≡ Some (first_month + place)
  pub date : date_at (record { 0 = n }) ≡ Some (date_by_table place n)
  pub back : day_of (date_by_table place n) ≡ known n

-- `proofs/MonthTable.antt` proves it
pub record MonthTable : Type 0 where
  -- the table by itself: it has 1,801 entries, the first is 0, and each is followed by the one as many days later as its month has
  pub count : length month_start_days ≡ 1801
  pub first : entry 0 ≡ 0
  pub lengths : (k : ℕ) → k < 1800 → entry (suc k) ≡ entry k + index_length (first_month + k)
  -- the rule at each entry, and the calls that answer with a month's first and last day
  pub rule : (k : ℕ) → k ≤ 1800 → entry k ≡ month_start (first_month + k)
  pub first_days : (k : ℕ) → k ≤ 1800 → first_day (first_month + k) ≡ known (entry k)
  pub last_days : (k : ℕ) → k < 1800 → last_day (first_month + k) ≡ known (entry (suc k) - 1)
  pub last_of_all : last_day end_month ≡ known (entry 1800 + 30)
  -- each date in range, and each day number
  pub dates : (d : Date) → is_date d ≡ true → DateByTable d
  pub days : (n : ℕ) → n ≤ last_day_number → DayByTable n
