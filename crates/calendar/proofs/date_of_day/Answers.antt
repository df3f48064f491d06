-- `calendar::date_of_day` meets its contract: year, month and day are those of the month and its start.
-- Assumes nothing.
use Prim.Native.Nat.{ℕ, ◌+◌, ◌-◌, ◌/◌, ◌%◌, ◌≤◌}
use mathlib.Core.Path.{◌≡◌, ◌∙◌}
use native.Mathlib.Omega.{arith}
use borrow.Author.Tests.{le-leb, lt-leb}
use Rattle.calendar.specs.declared.Date.{Date}
use Rattle.calendar.specs.Calendar.{date_of, month_of, last_day_number, first_month}
use Rattle.calendar.specs.DayAnswers.{date_at}
use Rattle.calendar.specs.MonthTable.{entry, date_by_table}
use Rattle.calendar.proofs.TableRule.{table-lengths}
use Rattle.calendar.proofs.MonthTable.{month-place, in_entry, date-in}
use Rattle.calendar.proofs.Laws.{index-length-high, same-date}
use Rattle.calendar.proofs.date_of_day.Goals as goal

-- the date of day n, from its month m, counted from 1950, and that month's start s
record Parts (n m s : ℕ) : Type 0 where
  start : s ≤ n
  year-high : 1950 + m / 12 ≤ 2099
  day-high : n - s + 1 ≤ 31
  date : ◌≡◌ {A = Date} (record { year = 1950 + m / 12; month = m % 12 + 1; day = n - s + 1 }) (date_of n)

parts : (n m s : ℕ) → n ≤ last_day_number → first_month + m ≡ month_of n → s ≡ entry m → Parts n m s
parts n m s h e f =
    let i = in_entry n m h e in
    let t = table-lengths m (month-place n m h e) in
    let l = index-length-high (first_month + m) in
    record {
      start = omega arith;
      year-high = omega (arith, month-place n m h e);
      day-high = omega arith;
      date = same-date _ (date_by_table m n) (omega arith) (omega arith) (omega arith) ∙ date-in n m h e;
    }

pub returns-then-number-gt-LAST_DAY : goal.returns-then-number-gt-LAST_DAY
unfolding date_at
returns-then-number-gt-LAST_DAY c = simp (lt-leb c.args.day.0 last_day_number (omega arith))

pub overflow_cast-result : goal.overflow_cast-result
overflow_cast-result c =
    let found : Parts c.args.day.0 c.month_of-months.result c.start-start.result.0 = parts c.args.day.0 _ _ (omega arith) c.month_of-months.ensures c.start-start.ensures in
    omega (arith, found.year-high)

pub overflow_sub-result : goal.overflow_sub-result
overflow_sub-result c =
    let found : Parts c.args.day.0 c.month_of-months.result c.start-start.result.0 = parts c.args.day.0 _ _ (omega arith) c.month_of-months.ensures c.start-start.ensures in
    found.start

pub overflow_cast-result-3 : goal.overflow_cast-result-3
overflow_cast-result-3 c =
    let found : Parts c.args.day.0 c.month_of-months.result c.start-start.result.0 = parts c.args.day.0 _ _ (omega arith) c.month_of-months.ensures c.start-start.ensures in
    omega (arith, found.day-high)

pub returns : goal.returns
unfolding date_at
returns c =
    let found : Parts c.args.day.0 c.month_of-months.result c.start-start.result.0 = parts c.args.day.0 _ _ (omega arith) c.month_of-months.ensures c.start-start.ensures in
    simp (le-leb c.args.day.0 last_day_number (omega arith), found.date)
