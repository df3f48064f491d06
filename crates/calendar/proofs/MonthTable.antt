-- The table of month starts and the calendar's rule agree: `MonthTable`.
-- Assumes nothing.
use Prim.Native.Nat.{ℕ, suc, ◌+◌, ◌-◌, ◌≤◌, ◌<◌}
use mathlib.Core.Path.{◌≡◌, refl, sym, ap, ◌∙◌}
use mathlib.Core.Bool.{Bool, true, and-eq-true_iff}
use native.Mathlib.Omega.{arith}
use borrow.Author.Tests.{le-leb}
use lib.Dec.{ltb, eqb}
use lib.ListN.{get_or-eq_default}
use Rattle.basics.proofs.Tests.{by, tests}
use Rattle.month_starts.specs.MonthStarts.{month_start_days}
use Rattle.calendar.specs.declared.Date.{Date}
use Rattle.calendar.specs.Calendar.{leap_year, month_length, is_date, month_index, index_length, month_start, day_number, date_of, month_of, last_day_number, first_month, end_month}
use Rattle.calendar.specs.DayAnswers.{known, day_of, date_at, month_at, is_month, first_day, last_day}
use Rattle.calendar.specs.MonthTable.{entry, InEntry, date_by_table, number_by_table, DateByTable, DayByTable, MonthTable}
use Rattle.calendar.proofs.Laws.{date-bounds, date-in-month, date-of-day-is-date, date-of-number, day-last, end-month, index-length-low, month-of-end, month-of-high, month-of-low, month-of-start, month-of-unique, number-of-date, same-date}
use Rattle.calendar.proofs.TableRule.{table-count, table-first, table-lengths, table-rule, table-start}

-- the month of day n, counted from January 1950, is m: by the table it holds the day, and the date found in it is the rule's
module _ (n m : ℕ) (h : n ≤ last_day_number) (e : first_month + m ≡ month_of n) where
  pub month-place : m < 1800
  month-place = omega (arith, month-of-high n h)

  pub in_entry : InEntry m n
  in_entry =
      let b = month-place in
      record {
        from = omega (arith, table-start (month_of n) m e (omega arith), month-of-start n);
        to = omega (arith, table-start (month_of n + 1) (suc m) (omega arith) (omega arith), month-of-end n);
      }

  pub date-in : date_by_table m n ≡ date_of n
  unfolding month_of month_index
  date-in =
      let d = date-of-day-is-date n h in
      let b = date-bounds (date_of n) d in
      let i = date-in-month (date_of n) d in
      let s = table-start (month_of n) m e (omega (arith, month-place)) in
      same-date _ _ (omega arith) (omega arith) (omega (arith, number-of-date n))

-- the last entry is past every day, and past it the table has 0: no month holds a day there
entry-below : (k n : ℕ) → n ≤ last_day_number → InEntry k n → k < 1800
entry-below k n l i =
    by (ltb k 1800) (λ _. k < 1800) (λ e. omega tests)
    (λ e.
    by (eqb k 1800) (λ _. k < 1800)
    (λ f. let p : k ≡ 1800 = omega tests in omega (tests, ap entry p, table-rule 1800 (omega arith), end-month))
    (λ f. omega (tests, get_or-eq_default month_start_days 0 {n = suc k} (omega (tests, table-count)))))

-- the month that holds a day by the table is the rule's
only-entry : (k n : ℕ) → n ≤ last_day_number → InEntry k n → first_month + k ≡ month_of n
only-entry k n l i =
    let b = entry-below k n l i in
    sym (month-of-unique (first_month + k) n (omega arith) (omega (arith, table-rule k (omega arith)))
    (omega (arith, table-start (first_month + k + 1) (suc k) (omega arith) (omega arith))))

-- what the calls answer, where n is the day number of a date, the first day of a month in range, or its last
pub day-is : (d : Date) (n : ℕ) → is_date d ≡ true → n ≡ day_number d → known n ≡ day_of d
unfolding day_of
day-is d n h e = simp (h, e)

pub month-bounds : {i : ℕ} {b : Bool} → b ≡ is_month i → b ≡ true → (first_month ≤ i) × (i ≤ end_month)
unfolding is_month
month-bounds p q = let h = sym p ∙ q in let t = simp and-eq-true_iff at h in (omega tests, omega tests)

module _ (i n : ℕ) (h : first_month ≤ i) (l : i ≤ end_month) where
  pub first-is : n ≡ month_start i → known n ≡ first_day i
  unfolding first_day is_month
  first-is e = simp (le-leb _ _ h, le-leb _ _ l, e)

  pub last-is : n ≡ month_start i + (index_length i - 1) → known n ≡ last_day i
  unfolding last_day is_month
  last-is e = simp (le-leb _ _ h, le-leb _ _ l, e)

date-by-table : (d : Date) → is_date d ≡ true → DateByTable d
unfolding date_at
date-by-table d h =
    let i = date-in-month d h in
    let m = month_index d.year d.month in
    let e : number_by_table d ≡ day_number d = omega (arith, table-start m (m - first_month) (omega arith) (omega arith)) in
    record {
      number = e;
      answer = sym (day-is d (number_by_table d) h e);
      back = simp (e, le-leb _ _ (day-last d h), date-of-number d h);
    }

day-by-table : (n : ℕ) → n ≤ last_day_number → DayByTable n
unfolding day_of date_at month_at
day-by-table n h =
    let k = month_of n - first_month in
    let e : first_month + k ≡ month_of n = omega (arith, month-of-low n) in
    record {
      place = k;
      below = month-place n k h e;
      held = in_entry n k h e;
      only = λ j i. omega (arith, only-entry j n h i);
      month = simp (le-leb _ _ h, e);
      date = simp (le-leb _ _ h, date-in n k h e);
      back = simp (date-in n k h e, date-of-day-is-date n h, number-of-date n);
    }

-- January 2100
pub end-length : index_length end_month ≡ 31
unfolding index_length month_length leap_year
end-length = refl

pub month-table : MonthTable
month-table =
    record {
      count = table-count;
      first = table-first;
      lengths = λ k h. table-lengths k (omega arith);
      rule = λ k h. table-rule k (omega arith);
      first_days = λ k h. sym (first-is (first_month + k) _ (omega arith) (omega arith) (table-rule k (omega arith)));
      last_days =
          λ k h.
          let i = first_month + k in
          sym (last-is i _ (omega arith) (omega arith)
          (omega (arith, table-lengths k (omega arith), table-rule k (omega arith), index-length-low i)));
      last_of_all = sym (last-is end_month _ (omega arith) (omega arith) (omega (arith, table-rule 1800 (omega arith), end-length)));
      dates = date-by-table;
      days = λ n h. day-by-table n (omega arith);
    }
