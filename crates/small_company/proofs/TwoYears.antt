-- The same day two years before a date from 1952 on is a date: February keeps its first 28 days, and another month its length.
-- Assumes nothing.
use Prim.Native.Nat.{ℕ, ◌-◌, ◌≤◌}
use mathlib.Core.Path.{◌≡◌}
use mathlib.Core.Bool.{Bool, true, false, ◌&&◌, and-false}
use borrow.Author.Tests.{eq-eqb, ne_eqb, eqb-true}
use lib.Dec.{eqb}
use Rattle.basics.specs.Pick.{pick}
use Rattle.basics.proofs.Tests.{tests, by}
use Rattle.calendar.specs.declared.Date.{Date}
use Rattle.calendar.specs.Calendar.{leap_year, month_length, is_date}
use Rattle.calendar.proofs.Laws.{date-bounds, bounds-date, length-low}
use Rattle.small_company.specs.SmallCompany.{two_years_before}

-- February has 29 days at most
february-high : (y : ℕ) → month_length y 2 ≤ 29
unfolding month_length
february-high y = by (leap_year y) (λ t. pick t 29 28 ≤ 29) (λ q. omega tests) (λ q. omega tests)

-- another month is as long in every year
same_length : (y z m : ℕ) → (m ≡ 2 → ⊥) → month_length y m ≡ month_length z m
unfolding month_length
same_length y z m f = rw (ne_eqb m 2 f)

-- the day that is kept, or the 28th
day_fits : (y z m n : ℕ) → 1 ≤ n → n ≤ month_length y m
    → (1 ≤ pick (eqb m 2 && eqb n 29) 28 n) × (pick (eqb m 2 && eqb n 29) 28 n ≤ month_length z m)
day_fits y z m n l h =
    by (eqb m 2) (λ t. (1 ≤ pick (t && eqb n 29) 28 n) × (pick (t && eqb n 29) 28 n ≤ month_length z m))
    (λ q.
    by (eqb n 29) (λ t. (1 ≤ pick t 28 n) × (pick t 28 n ≤ month_length z m))
    (λ r. omega (tests, length-low z m))
    (λ r. let e : m ≡ 2 = eqb-true m 2 q in let f = rw e at h in omega (tests, length-low z m, february-high y)))
    (λ q. let s = same_length y z m (λ e. omega tests) in omega tests)

-- a date with the fields of the same day two years before
module _ (d r : Date) (y : r.year ≡ d.year - 2) (m : r.month ≡ d.month) where
  is-it : (t : Bool) → (eqb d.month 2 && eqb d.day 29) ≡ t → r.day ≡ pick t 28 d.day → r ≡ two_years_before d
  unfolding two_years_before
  is-it t q e = rw q (λ i. record { year = y i; month = m i; day = e i })

  pub leap_day : d.month ≡ 2 → d.day ≡ 29 → r.day ≡ 28 → r ≡ two_years_before d
  leap_day p q e = is-it true (rw (eq-eqb d.month 2 p, eq-eqb d.day 29 q)) e

  pub other-day : (d.day ≡ 29 → ⊥) → r.day ≡ d.day → r ≡ two_years_before d
  other-day q e = is-it false (rw (ne_eqb d.day 29 q) (and-false (eqb d.month 2))) e

  pub other-month : (d.month ≡ 2 → ⊥) → r.day ≡ d.day → r ≡ two_years_before d
  other-month p e = is-it false (rw (ne_eqb d.month 2 p)) e

pub two-years-date : (d : Date) → is_date d ≡ true → 1952 ≤ d.year → is_date (two_years_before d) ≡ true
unfolding two_years_before
two-years-date d h l =
    let b = date-bounds d h in
    let f = day_fits d.year (d.year - 2) d.month d.day b.day-low b.day-high in
    bounds-date (two_years_before d)
    (record {
      year-low = omega tests;
      year-high = omega tests;
      month-low = b.month-low;
      month-high = b.month-high;
      day-low = f.0;
      day-high = f.1;
    })
