-- Definitions that only the contracts of private functions cite: the checked value of a claim, what is worked out from it, and the rows of a listing.
use Rattle.std.specs.Prelude.{ℕ, Bool, true, false, ◌+◌, ◌-◌, ◌*◌, ◌≤◌, ◌<◌, min, ◌≡◌, ◌&&◌, ◌||◌, List, ◌++◌, leb, ltb, eqb, ℤ, length, drop, Err, Ok, Result, Option, Some, None}
use Rattle.basics.specs.declared.Day.{Day}
use Rattle.basics.specs.Pick.{pick}
use Rattle.basics.specs.Checks.{refuse_short_list}
use Rattle.calendar.specs.declared.Date.{Date}
use Rattle.calendar.specs.Calendar.{day_number, month_index, month_length, month_start, index_length, month_of, last_day_number}
use Rattle.calendar.specs.DayAnswers.{known}
use Rattle.claim_months.specs.declared.BeginMonth.{BeginMonth}
use Rattle.claim_months.specs.declared.CheckedClaim.{CheckedClaim}
use Rattle.claim_months.specs.declared.Claim.{Claim}
use Rattle.claim_months.specs.declared.ClaimDays.{ClaimDays}
use Rattle.claim_months.specs.declared.ClaimMonth.{ClaimMonth}
use Rattle.claim_months.specs.declared.ClaimClosing.{ClaimClosing}
use Rattle.claim_months.specs.declared.ExposedMonths.{ExposedMonths}
use Rattle.claim_months.specs.declared.MonthDay.{MonthDay}
use Rattle.claim_months.specs.declared.MonthWindow.{MonthWindow}
use Rattle.claim_months.specs.declared.Row.{Row}
use Rattle.claim_months.specs.declared.Span.{Span}
use Rattle.claim_months.specs.declared.Starts.{Starts}
use Rattle.claim_months.specs.declared.Starts.TheVariants.{After, Before}
use Rattle.claim_months.specs.declared.Window.{Window}
use Rattle.claim_months.specs.Claim.{within_days, is_missing, is_closed, first_duration, category, claim_check}
use Rattle.claim_months.specs.ClaimMonths.{month_first, month_last}
use Rattle.claim_months.specs.Exposure.{month_b, MonthRecord, month_records}
use Rattle.claim_months.specs.Span.{span_of, span_u, span_b}
use Rattle.claim_months.specs.Listing.{rows}

-- ---- days and months

-- the number n as a day
abbrev pub as_day : ℕ → Day
as_day n = record { 0 = n }

-- a date's day and month
abbrev pub month_day : Date → MonthDay
month_day d = record { day = as_day (day_number d); month = month_index d.year d.month }

-- a day and its month, and the same of a window
abbrev pub with_month : Day → MonthDay
with_month d = record { day = d; month = month_of d.0 }

abbrev pub with_months : Window → MonthWindow
with_months w = record { first = with_month w.first; last = with_month w.last }

-- a day of the calendar with its own month
pub record Placed (d : MonthDay) : Type 0 where
  pub high : d.day.0 ≤ last_day_number
  pub month_is : d.month ≡ month_of d.day.0

-- a window that check 1 passes, with its months
pub record SoundWindow (w : MonthWindow) : Type 0 where
  pub ordered : w.first.day.0 ≤ w.last.day.0
  pub first_placed : Placed w.first
  pub last_placed : Placed w.last

-- ---- the checked value of a claim

-- the day of a claim's termination, if it is closed, and of its maximum, if it is known
abbrev pub termination_of : Claim → Option Day
termination_of c = pick (is_closed c) (known (day_number c.termination)) None

abbrev pub maximum_of : Claim → Option Day
maximum_of c = pick (is_missing c.maximum) None (known (day_number c.maximum))

-- the day numbers of a claim's dates
abbrev pub days_of : Claim → ClaimDays
days_of c =
    record {
      disability = as_day (day_number c.disability);
      bcd = as_day (day_number c.bcd);
      termination = termination_of c;
      maximum = maximum_of c;
    }

-- a day is 45 days or less before or after one that may be there
abbrev pub near_by : Day → Option Day → Bool
near_by t None = false
near_by t (Some m) = within_days 45 t.0 m.0

-- a day that may be there is not before another one
abbrev pub none_before : Day → Option Day → Bool
none_before b None = true
none_before b (Some t) = leb b.0 t.0

-- the days from the month's first day to a BCD or, from its day 27 on, to the month's last day
unfoldable pub starts_of : Date → Starts
starts_of d = pick (leb 27 d.day) (Before (month_length d.year d.month - d.day)) (After (d.day - 1))

-- how a closed claim was closed
abbrev pub closing_at : Claim → ClaimClosing
closing_at c = record { termination = month_day c.termination; late = leb 27 c.termination.day; category = category c }

-- of a claim that passes its checks
abbrev pub checked_of : Claim → CheckedClaim
checked_of c =
    record {
      bcd = month_day c.bcd;
      starts = starts_of c.bcd;
      first = record { 0 = first_duration c };
      closing = pick (is_closed c) (Some (closing_at c)) None;
    }

-- k is the checked value of the claim c
pub record Stands (c : Claim) (k : CheckedClaim) : Type 0 where
  pub passes : claim_check c ≡ 0
  pub is : k ≡ checked_of c

-- k is the checked value of some claim
pub record OfClaim (k : CheckedClaim) : Type 0 where
  pub claim : Claim
  pub stands : Stands claim k

-- ---- what is worked out from it, in the words of the definitions on a claim

-- the first day of the claim month that starts in calendar month i
unfoldable pub start_at : Starts → ℕ → ℕ
start_at (After n) i = month_start i + n
start_at (Before n) i = month_start i + (index_length i - 1) - n

abbrev pub start_of : CheckedClaim → ℕ → ℕ
start_of k i = start_at k.starts i

-- a closing in the window b..e
unfoldable pub closing_within : Option ClaimClosing → ℕ → ℕ → Option ClaimClosing
closing_within None b e = None
closing_within (Some x) b e = pick (leb b x.termination.day.0 && leb x.termination.day.0 e) (Some x) None

-- the later of two days
unfoldable pub later_of : MonthDay → MonthDay → MonthDay
later_of x y = pick (ltb x.day.0 y.day.0) y x

-- f and l
abbrev pub from_of : CheckedClaim → MonthDay → MonthDay
from_of k first = later_of k.bcd first

unfoldable pub to_at : Option ClaimClosing → MonthDay → MonthDay
to_at None last = last
to_at (Some x) last = pick (ltb x.termination.day.0 last.day.0) x.termination last

abbrev pub to_of : CheckedClaim → MonthDay → MonthDay
to_of k last = to_at k.closing last

-- U in the closing month s..p
unfoldable pub closing_of : ClaimClosing → ℕ → ℕ → ℕ
closing_of x s p =
    let t = x.termination.day.0 in
    pick (eqb x.category 1 || eqb x.category 2) 30 (pick x.late (30 - (p - t)) (min 30 (t - s + 1)))

-- U and category of the month s..p that holds l: those of a closing in the window or, with none, 30 − (p − l) and 0
unfoldable pub u_at : Option ClaimClosing → ℕ → ℕ → ℕ → ℕ
u_at None l s p = 30 - (p - l)
u_at (Some x) l s p = closing_of x s p

unfoldable pub category_at : Option ClaimClosing → ℕ
category_at None = 0
category_at (Some x) = x.category

-- the claim month that holds a day: it is claim month place + 1
pub record HoldsDay (c : Claim) (day : ℕ) (r : ClaimMonth) : Type 0 where
  pub starts : r.first.0 ≡ month_first c (1 + r.place)
  pub ends : r.last.0 ≡ month_last c (1 + r.place)
  pub from : r.first.0 ≤ day
  pub to : day ≤ r.last.0

abbrev pub HoldsFor : CheckedClaim → ℕ → ClaimMonth → Type 0
HoldsFor k day r = (c : Claim) → Stands c k → HoldsDay c day r

-- the claim month that holds f, in a window from day b on: it is claim month place + 1
pub record Begins (c : Claim) (b f : ℕ) (r : BeginMonth) : Type 0 where
  pub starts : r.first.0 ≡ month_first c (1 + r.place)
  pub from : r.first.0 ≤ f
  pub to : f ≤ month_last c (1 + r.place)
  pub b_is : r.before.0 ≡ month_b b (month_first c (1 + r.place)) (month_last c (1 + r.place))

abbrev pub BeginsFor : CheckedClaim → MonthDay → BeginMonth → Type 0
BeginsFor k first r = (c : Claim) → Stands c k → Begins c first.day.0 (from_of k first).day.0 r

-- the month records of a claim in a window with months
abbrev pub records_in : Claim → MonthWindow → List MonthRecord
records_in c w = month_records c w.first.day.0 w.last.day.0

-- in the place of the claim month that holds f where there are no months
abbrev pub no_begin : BeginMonth
no_begin = record { place = 0; first = as_day 0; before = record { 0 = 0 } }

-- their span and, if there are any, the claim month that holds f
pub record MonthsFor (k : CheckedClaim) (w : MonthWindow) (m : ExposedMonths) : Type 0 where
  pub span_is : (c : Claim) → Stands c k → m.span ≡ span_of (records_in c w)
  pub begin_is : 0 < m.span.months → BeginsFor k w.first m.begin

-- ---- the rows of a listing

-- the month record that a row of the listing holds
abbrev pub record_of : Row → MonthRecord
record_of r =
    record {
      duration = r.duration.0;
      first = r.first.day.0;
      last = r.last.0;
      U = r.through.0;
      B = r.before.0;
      category = r.category;
    }

-- the ranges of a month record
pub record RowBounds (r : MonthRecord) : Type 0 where
  pub duration_high : r.duration ≤ 3626
  pub first_high : r.first ≤ last_day_number
  pub last_high : r.last ≤ last_day_number
  pub u_high : r.U ≤ 30
  pub b_high : r.B ≤ 30
  pub category_high : r.category ≤ 5

-- the category of a span's month j: 0 but in the last
unfoldable pub span_category : Span → ℕ → ℕ
span_category sp j = pick (eqb (j + 1) sp.months) sp.category 0

-- the record of a span's month j, which starts on the day s and ends before the day n, where the days f to l are exposed
unfoldable pub span_record : Span → ℕ → MonthDay → ℕ → MonthDay → ℕ → MonthRecord
span_record sp j s n f l =
    record {
      duration = sp.first.0 + j;
      first = (later_of s f).day.0;
      last = min (n - 1) l;
      U = span_u sp j;
      B = span_b sp j;
      category = span_category sp j;
    }

-- the lent list afterwards
abbrev pub RowsFor : CheckedClaim → MonthWindow → List ℤ → List ℤ → Type 0
RowsFor k w old new =
    (c : Claim) → Stands c k → new ≡ rows (records_in c w) ++ drop (6 * length (records_in c w)) old

-- the answer and the lent list afterwards: the records, or 10 if there is no room for them
pub record ListedAs (rs : List MonthRecord) (old new : List ℤ) (r : Result ℕ ℕ) : Type 0 where
  pub answer : r ≡ pick (leb (6 * length rs) (length old)) (Ok (length rs)) (Err refuse_short_list)
  pub list : new ≡ pick (leb (6 * length rs) (length old)) (rows rs ++ drop (6 * length rs) old) old

abbrev pub ListedFor : CheckedClaim → MonthWindow → List ℤ → List ℤ → Result ℕ ℕ → Type 0
ListedFor k w old new r = (c : Claim) → Stands c k → ListedAs (records_in c w) old new r
