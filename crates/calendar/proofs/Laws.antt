-- The calendar's laws, which this layer's proofs and the layers above cite; `last-date`, `days-rise` and `next-day` are for readers.
-- Assumes nothing.
use Prim.Native.Nat.{ℕ, zero, suc, ◌+◌, ◌*◌, ◌-◌, ◌/◌, ◌%◌, ◌≤◌, ◌<◌}
use mathlib.Core.Path.{◌≡◌, refl, sym, ap, ◌∙◌}
use mathlib.Core.Bool.{Bool, true, false, ◌||◌, and-eq-true_iff}
use mathlib.Core.Logic.{◌⊎◌, ⊎_elim}
use native.Mathlib.Omega.{arith}
use borrow.Author.Tests.{le-leb}
use lib.Dec.{ltb, leb, eqb}
use Rattle.calendar.specs.declared.Date.{Date}
use Rattle.basics.specs.Pick.{pick}
use Rattle.calendar.specs.Calendar.{leap_year, month_length, is_date, month_index, index_length, days_before, month_start, day_number, next_date, date_of, month_of, last_day_number, first_month}
use Rattle.basics.proofs.Tests.{by, tests}
use Rattle.month_starts.specs.MonthStarts.{month_start_days}
use Rattle.calendar.proofs.TableRule.{table-rule}

-- what `is_date` tests, as facts
pub record DateBounds (d : Date) : Type 0 where
  pub year-low : 1950 ≤ d.year
  pub year-high : d.year ≤ 2099
  pub month-low : 1 ≤ d.month
  pub month-high : d.month ≤ 12
  pub day-low : 1 ≤ d.day
  pub day-high : d.day ≤ month_length d.year d.month

pub date-bounds : (d : Date) → is_date d ≡ true → DateBounds d
unfolding is_date
date-bounds d h = let t = simp and-eq-true_iff at h in omega tests

pub bounds-date : (d : Date) → DateBounds d → is_date d ≡ true
unfolding is_date
bounds-date d b =
    simp (
      le-leb _ _ b.year-low,
      le-leb _ _ b.year-high,
      le-leb _ _ b.month-low,
      le-leb _ _ b.month-high,
      le-leb _ _ b.day-low,
      le-leb _ _ b.day-high,
    )

-- a month has 28 to 31 days
Length : ℕ → Type 0
Length n = (28 ≤ n) × (n ≤ 31)

pick-length : (t : Bool) (a b : ℕ) → Length a → Length b → Length (pick t a b)
pick-length true a b p q = p
pick-length false a b p q = q

length_both : (y m : ℕ) → Length (month_length y m)
unfolding month_length Length
length_both y m =
    pick-length (eqb m 2) _ _
    (pick-length (leap_year y) 29 28 (omega arith) (omega arith))
    (pick-length (eqb m 4 || eqb m 6 || eqb m 9 || eqb m 11) 30 31 (omega arith) (omega arith))

pub length-low : (y m : ℕ) → 28 ≤ month_length y m
unfolding Length
length-low y m = (length_both y m).0

pub length_high : (y m : ℕ) → month_length y m ≤ 31
unfolding Length
length_high y m = (length_both y m).1

pub index-length-low : (i : ℕ) → 28 ≤ index_length i
unfolding index_length
index-length-low i = length-low _ _

pub index-length-high : (i : ℕ) → index_length i ≤ 31
unfolding index_length
index-length-high i = length_high _ _

-- a month starts the day after the one before it ends
pub month-step : (i : ℕ) → first_month ≤ i → month_start (i + 1) ≡ month_start i + index_length i
unfolding month_start days_before
month-step i h =
    let e : i + 1 - first_month ≡ suc (i - first_month) = omega arith in
    let g : first_month + (i - first_month) ≡ i = omega arith in
    ap days_before e ∙ ap (λ (j : ℕ). days_before (i - first_month) + index_length j) g

rise : (i n : ℕ) → first_month ≤ i → month_start i + 28 * n ≤ month_start (i + n)
rise i zero h = let e : i + 0 ≡ i = omega arith in omega (arith, ap month_start e)
rise i (suc n) h =
    let e : i + suc n ≡ i + n + 1 = omega arith in
    omega (arith, ap month_start e, rise i n h, month-step (i + n) (omega arith), index-length-low (i + n))

pub months-rise : (i j : ℕ) → first_month ≤ i → i ≤ j → month_start i + 28 * (j - i) ≤ month_start j
months-rise i j h l = let e : i + (j - i) ≡ j = omega arith in omega (arith, ap month_start e, rise i (j - i) h)

pub end-month : month_start 25200 ≡ 54787
unfolding month_start_days
end-month = sym (table-rule 1800 (omega arith))

-- A date from 1950 on, with no last year: what `date_of` gives at every number.
record Formed (d : Date) : Type 0 where
  year-low : 1950 ≤ d.year
  month-low : 1 ≤ d.month
  month-high : d.month ≤ 12
  day-low : 1 ≤ d.day
  day-high : d.day ≤ month_length d.year d.month

abbrev index : Date → ℕ
index d = month_index d.year d.month

-- where such a date stands
record Place (d : Date) : Type 0 where
  low : first_month ≤ index d
  number : day_number d ≡ month_start (index d) + (d.day - 1)
  length : index_length (index d) ≡ month_length d.year d.month
  next : day_number d < month_start (index d + 1)
  step : month_start (index d + 1) ≡ month_start (index d) + month_length d.year d.month

place : (d : Date) → Formed d → Place d
unfolding day_number month_index index_length
place d f =
    let low : first_month ≤ index d = omega arith in
    let y : index d / 12 ≡ d.year = omega arith in
    let m : index d % 12 + 1 ≡ d.month = omega arith in
    let l : index_length (index d) ≡ month_length d.year d.month = cc in
    let s = month-step (index d) low in
    record { low = low; number = refl; length = l; next = omega arith; step = omega arith }

-- the day after such a date is one too, with the next number
record After (d e : Date) : Type 0 where
  formed : Formed e
  number : day_number e ≡ day_number d + 1

after : (d : Date) → Formed d → After d (next_date d)
unfolding next_date day_number month_index
after d f =
    let p = place d f in
    by (ltb d.day (month_length d.year d.month))
    (λ t.
    After d
    (pick t (record { year = d.year; month = d.month; day = d.day + 1 })
    (pick (ltb d.month 12) (record { year = d.year; month = d.month + 1; day = 1 }) (record { year = d.year + 1; month = 1; day = 1 }))))
    (λ e. record { formed = omega tests; number = omega tests })
    (λ e.
    by (ltb d.month 12)
    (λ t.
    After d (pick t (record { year = d.year; month = d.month + 1; day = 1 }) (record { year = d.year + 1; month = 1; day = 1 })))
    (λ g.
    let i : month_index d.year (d.month + 1) ≡ index d + 1 = omega arith in
    record { formed = omega (tests, length-low d.year (d.month + 1)); number = omega (tests, ap month_start i) })
    (λ g.
    let i : month_index (d.year + 1) 1 ≡ index d + 1 = omega tests in
    record { formed = omega (tests, length-low (d.year + 1) 1); number = omega (tests, ap month_start i) }))

-- every number's date is such a date, and has that number
record Reached (n : ℕ) (d : Date) : Type 0 where
  formed : Formed d
  number : day_number d ≡ n

reached : (n : ℕ) → Reached n (date_of n)
unfolding date_of day_number month_start month_index days_before
reached zero =
    record { formed = omega (arith, length-low 1950 1); number = refl }
reached (suc n) =
    let r = reached n in
    let a = after (date_of n) r.formed in
    record { formed = a.formed; number = omega arith }

pub number-of-date : (n : ℕ) → day_number (date_of n) ≡ n
number-of-date n = (reached n).number

placed : (n : ℕ) → Place (date_of n)
placed n = place (date_of n) (reached n).formed

-- a later start is of a later month
pub months-order : (i j : ℕ) → first_month ≤ j → month_start i < month_start j → i < j
months-order i j h l = by (leb j i) (λ _. i < j) (λ e. omega (tests, months-rise j i h (omega tests))) (λ e. omega tests)

-- the month of a day
pub month-of-low : (n : ℕ) → first_month ≤ month_of n
unfolding month_of
month-of-low n = (placed n).low

pub month-of-start : (n : ℕ) → month_start (month_of n) ≤ n
unfolding month_of
month-of-start n = omega (arith, placed n, number-of-date n)

pub month-of-end : (n : ℕ) → n < month_start (month_of n + 1)
unfolding month_of
month-of-end n = omega (arith, placed n, number-of-date n)

pub month-of-high : (n : ℕ) → n ≤ last_day_number → month_of n < 25200
month-of-high n h = months-order (month_of n) 25200 (omega arith) (omega (arith, month-of-start n, end-month))

pub month-of-unique : (i n : ℕ) → first_month ≤ i → month_start i ≤ n → n < month_start (i + 1) → month_of n ≡ i
month-of-unique i n h l u =
    let a = month-of-low n in
    let s = month-of-start n in
    let e = month-of-end n in
    let p = months-order i (month_of n + 1) (omega arith) (omega arith) in
    let q = months-order (month_of n) (i + 1) (omega arith) (omega arith) in
    omega arith

-- where a date stands: its month and its place there
pub record InMonth (d : Date) : Type 0 where
  pub low : first_month ≤ month_index d.year d.month
  pub high : month_index d.year d.month < 25200
  pub number : day_number d ≡ month_start (month_index d.year d.month) + (d.day - 1)
  pub length : index_length (month_index d.year d.month) ≡ month_length d.year d.month

placed-date : (d : Date) → is_date d ≡ true → Place d
placed-date d h = let b = date-bounds d h in place d (omega arith)

pub date-in-month : (d : Date) → is_date d ≡ true → InMonth d
unfolding month_index
date-in-month d h =
    let b = date-bounds d h in
    let p = placed-date d h in
    record { low = p.low; high = omega arith; number = p.number; length = p.length }

pub month-of-date : (d : Date) → is_date d ≡ true → month_of (day_number d) ≡ month_index d.year d.month
month-of-date d h =
    let p = placed-date d h in
    month-of-unique (index d) (day_number d) p.low (omega arith) p.next

-- 54,786 is the last day number
pub day-last : (d : Date) → is_date d ≡ true → day_number d ≤ last_day_number
day-last d h =
    let p = placed-date d h in
    let i = date-in-month d h in
    omega (arith, end-month, months-rise (index d + 1) 25200 (omega arith) (omega arith))

pub last-date : day_number (record { year = 2099; month = 12; day = 31 }) ≡ last_day_number
unfolding day_number month_index month_start_days
last-date = ap (λ (n : ℕ). n + 30) (sym (table-rule 1799 (omega arith)))

pub date-of-day-is-date : (n : ℕ) → n ≤ last_day_number → is_date (date_of n) ≡ true
unfolding month_of month_index
date-of-day-is-date n h =
    let f = (reached n).formed in
    let m = month-of-high n h in
    bounds-date (date_of n) (omega arith)

pub same-date : (d e : Date) → d.year ≡ e.year → d.month ≡ e.month → d.day ≡ e.day → d ≡ e
same-date d e y m n = λ i. record { year = y i; month = m i; day = n i }

-- day number and date are inverse both ways
pub date-of-number : (d : Date) → is_date d ≡ true → date_of (day_number d) ≡ d
unfolding month_of month_index
date-of-number d h =
    let n = day_number d in
    let e = date_of n in
    let f = (reached n).formed in
    let b = date-bounds d h in
    let i = month-of-date d h in
    let s = ap month_start i in
    let p = placed n in
    let q = placed-date d h in
    let r = number-of-date n in
    same-date e d (omega arith) (omega arith) (omega arith)

-- one date stands before another
abbrev pub Earlier : Date → Date → Type 0
Earlier d e =
    (d.year < e.year)
    ⊎ (((d.year ≡ e.year) × (d.month < e.month)) ⊎ ((d.year ≡ e.year) × (d.month ≡ e.month) × (d.day < e.day)))

-- day numbers rise with dates, and consecutive days differ by one
pub days-rise : (d e : Date) → is_date d ≡ true → is_date e ≡ true → Earlier d e → day_number d < day_number e
unfolding month_index
days-rise d e h k =
    let b = date-bounds d h in
    let c = date-bounds e k in
    let p = placed-date d h in
    let q = placed-date e k in
    let later : index d < index e → day_number d < day_number e =
    λ l. omega (arith, months-rise (index d + 1) (index e) (omega arith) (omega arith)) in
    ⊎_elim (λ y. later (omega arith))
    (⊎_elim (λ m. later (omega arith))
    (λ n. let i : index d ≡ index e = omega arith in omega (arith, ap month_start i)))

pub next-day : (d : Date) → is_date d ≡ true → day_number (next_date d) ≡ day_number d + 1
next-day d h = let b = date-bounds d h in (after d (omega arith)).number
