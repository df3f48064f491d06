-- The day that the calendar's call answers with, and the first day within two years.
-- Assumes nothing.
use Prim.Native.Nat.{ℕ, ◌<◌, ◌≤◌}
use mathlib.Core.Path.{◌≡◌, refl, ap}
use mathlib.Core.Bool.{true, false}
use borrow.Author.Tests.{le-leb, lt-leb}
use Rattle.basics.specs.declared.Day.{Day}
use Rattle.basics.specs.Pick.{pick}
use Rattle.basics.proofs.Tests.{tests, by}
use Rattle.calendar.specs.declared.Date.{Date}
use Rattle.calendar.specs.Calendar.{is_date, day_number}
use Rattle.calendar.specs.DayAnswers.{known, day_of}
use Rattle.small_company.specs.SmallCompany.{two_years_before, first_within}
use Rattle.small_company.proofs.TwoYears.{two-years-date}
use Rattle.std.specs.Prelude.{None, Some, Option, is_some}

pub day-known : (d : Date) (x : Day) → Some x ≡ day_of d → (is_date d ≡ true) × (x.0 ≡ day_number d)
unfolding day_of
day-known d x e =
    by (is_date d) (λ t. Some x ≡ pick t (known (day_number d)) None → (t ≡ true) × (x.0 ≡ day_number d))
    (λ q f. (refl, let s : x ≡ record { 0 = day_number d } = cc in λ i. (s i).0))
    (λ q f. let z : ◌≡◌ {A = ℕ} 0 1 = cc in absurd (omega tests)) e

pub day-unknown : (d : Date) → None ≡ day_of d → is_date d ≡ false
unfolding day_of
day-unknown d e =
    by (is_date d) (λ t. None ≡ pick t (known (day_number d)) None → t ≡ false)
    (λ q f. let z : ◌≡◌ {A = ℕ} 0 1 = cc in absurd (omega tests)) (λ q f. refl) e

module _ (d : Date) (h : is_date d ≡ true) where
  has-day : day_of d ≡ Some (record { 0 = day_number d })
  unfolding day_of
  has-day = rw h refl

  pub day-there : is_some (day_of d) ≡ true
  day-there = ap (λ (o : Option Day). is_some o) has-day

  pub its-day : (x : Day) → day_of d ≡ Some x → x.0 ≡ day_number d
  its-day x e = let s : x ≡ record { 0 = day_number d } = cc (e, has-day) in λ i. (s i).0

module _ (d : Date) (h : is_date d ≡ true) where
  pub first-of-all : d.year < 1952 → 0 ≡ first_within d
  unfolding first_within
  first-of-all l = rw (lt-leb 1952 d.year l)

  module _ (l : 1952 ≤ d.year) where
    pub two-years-there : is_some (day_of (two_years_before d)) ≡ true
    two-years-there = day-there (two_years_before d) (two-years-date d h l)

    pub two-years-day : (x : Day) → day_of (two_years_before d) ≡ Some x → x.0 ≡ first_within d
    unfolding first_within
    two-years-day x e = rw (le-leb 1952 d.year l) (its-day (two_years_before d) (two-years-date d h l) x e)
