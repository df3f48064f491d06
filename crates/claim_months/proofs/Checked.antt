-- What is worked out from the checked value of a claim is what the definitions say of the claim.
-- Assumes nothing.
use Prim.Native.Nat.{ℕ, ◌+◌, ◌-◌, ◌≤◌, min, max}
use mathlib.Core.Path.{◌≡◌, refl, sym}
use mathlib.Core.Bool.{Bool, true, false, ◌&&◌}
use lib.Dec.{leb, ltb, eqb}
use borrow.Author.Tests.{le-leb, le-ltb, eqb-true, eqb-false}
use Rattle.basics.specs.declared.Day.{Day}
use Rattle.basics.specs.Pick.{pick}
use Rattle.basics.proofs.Tests.{tests, by}
use Rattle.calendar.specs.declared.Date.{Date}
use Rattle.calendar.specs.Calendar.{is_date, day_number, month_length, month_start, index_length, last_day_number, first_month, end_month}
use Rattle.calendar.specs.DayAnswers.{day_of, is_month, first_day, last_day}
use Rattle.calendar.proofs.Laws.{date-bounds, length_high, month-of-date, month-of-unique, month-step, day-last}
use Rattle.claim_months.specs.declared.CheckedClaim.{CheckedClaim}
use Rattle.claim_months.specs.declared.Claim.{Claim}
use Rattle.claim_months.specs.declared.MonthDay.{MonthDay}
use Rattle.claim_months.specs.declared.MonthWindow.{MonthWindow}
use Rattle.claim_months.specs.declared.Starts.{Starts}
use Rattle.claim_months.specs.declared.Starts.TheVariants.{After, Before}
use Rattle.claim_months.specs.declared.Window.{Window}
use Rattle.claim_months.specs.Claim.{is_closed, bcd_day, termination_day, first_duration, category, claim_check}
use Rattle.claim_months.specs.ClaimMonths.{bcd_month, start_in}
use Rattle.claim_months.specs.Windows.{window_sound}
use Rattle.claim_months.specs.Exposure.{closed_in, exposed_from, exposed_to, closing_u, month_u, closing_category}
use Rattle.claim_months.specs.design.Private.{as_day, month_day, with_months, Placed, SoundWindow, starts_of, checked_of, Stands, start_at, start_of, closing_at, closing_within, later_of, from_of, to_at, to_of, closing_of, u_at, category_at}
use Rattle.claim_months.proofs.Picked.{picked, unpicked}
use Rattle.claim_months.proofs.Sound.{Sound, sound}
use Rattle.claim_months.proofs.Months.{start-early, start-late, start-low, start-high}
use Rattle.claim_months.proofs.Parts.{window-bounds}
use Rattle.claim_months.proofs.Closing.{closed_of}
use Rattle.std.specs.Prelude.{Err, None, Ok, Some, unwrap_or}

-- ---- days and months

-- what day_number knows of a date, and what it doesn't
pub day-known : (d : Date) (x : Day) → Some x ≡ day_of d → (is_date d ≡ true) × (x ≡ as_day (day_number d))
unfolding day_of
day-known d x h = let p = picked (is_date d) h (λ e. let z : ◌≡◌ {A = ℕ} 0 1 = cc in omega tests) in (p.0, cc)

pub day-unknown : (d : Date) → None ≡ day_of d → is_date d ≡ false
unfolding day_of
day-unknown d h = (unpicked (is_date d) h (λ e. let z : ◌≡◌ {A = ℕ} 0 1 = cc in omega tests)).0

-- the days that are found of a month of the calendar
pub first_found : (i : ℕ) → first_month ≤ i → i ≤ end_month → (unwrap_or (first_day i) (as_day 0)).0 ≡ month_start i
unfolding first_day is_month
first_found i l h = rw (le-leb first_month i, le-leb i end_month)

pub last_found : (i : ℕ) → first_month ≤ i → i ≤ end_month → (unwrap_or (last_day i) (as_day 0)).0 ≡ month_start i + (index_length i - 1)
unfolding last_day is_month
last_found i l h = rw (le-leb first_month i, le-leb i end_month)

pub date-placed : (d : Date) → is_date d ≡ true → Placed (month_day d)
date-placed d h = record { high = day-last d h; month_is = sym (month-of-date d h) }

pub window_placed : (w : Window) → window_sound w.first.0 w.last.0 ≡ true → SoundWindow (with_months w)
window_placed w h =
    let b = window-bounds w.first.0 w.last.0 h in
    record {
      ordered = b.ordered;
      first_placed = record { high = omega tests; month_is = refl };
      last_placed = record { high = b.last; month_is = refl };
    }

-- the later of two days
pub later-day : (x y : MonthDay) → (later_of x y).day.0 ≡ max x.day.0 y.day.0
unfolding later_of
later-day x y =
    by (ltb x.day.0 y.day.0) (λ t. (pick t y x).day.0 ≡ max x.day.0 y.day.0) (λ q. omega tests) (λ q. omega tests)

pub later-placed : (x y : MonthDay) → Placed x → Placed y → Placed (later_of x y)
unfolding later_of
later-placed x y p q = by (ltb x.day.0 y.day.0) (λ t. Placed (pick t y x)) (λ _. q) (λ _. p)

-- ---- the checked value

-- what `checked` answers of a claim
pub checked-known : (c : Claim) (k : CheckedClaim)
    → Ok k ≡ pick (eqb (claim_check c) 0) (Ok (checked_of c)) (Err (claim_check c)) → Stands c k
checked-known c k h =
    let p = picked (eqb (claim_check c) 0) h (λ e. let z : ◌≡◌ {A = ℕ} 0 1 = cc in omega tests) in
    record { passes = eqb-true (claim_check c) 0 p.0; is = cc }

pub checked_refused : (c : Claim) (n : ℕ)
    → Err n ≡ pick (eqb (claim_check c) 0) (Ok (checked_of c)) (Err (claim_check c)) → (n ≡ claim_check c) × (n ≡ 0 → ⊥)
checked_refused c n h =
    let p = unpicked (eqb (claim_check c) 0) h (λ e. let z : ◌≡◌ {A = ℕ} 0 1 = cc in omega tests) in
    let e : n ≡ claim_check c = cc in (e, λ z. omega (tests, eqb-false (claim_check c) 0 p.0))

-- the days between a BCD's month starts and an end of the calendar month
abbrev pub days_off : Starts → ℕ
days_off (After n) = n
days_off (Before n) = n

pub days-off-high : (d : Date) → is_date d ≡ true → days_off (starts_of d) ≤ 25
unfolding starts_of
days-off-high d h =
    let r = date-bounds d h in
    let l = length_high d.year d.month in
    by (leb 27 d.day) (λ t. days_off (pick t (Before (month_length d.year d.month - d.day)) (After (d.day - 1))) ≤ 25) (λ q. omega tests)
    (λ q. omega tests)

-- of the value k of a claim c
module _ (c : Claim) (k : CheckedClaim) (s : Stands c k) where
  pub claim-sound : Sound c
  claim-sound = sound c s.passes

  pub days-off-is : days_off k.starts ≤ 25
  days-off-is = rw s.is (days-off-high c.bcd claim-sound.bcd-date)

  pub bcd-day-is : k.bcd.day.0 ≡ bcd_day c
  bcd-day-is = rw s.is

  pub bcd-month-is : k.bcd.month ≡ bcd_month c
  unfolding bcd_month
  bcd-month-is = rw s.is

  pub first-is : k.first.0 ≡ first_duration c
  first-is = rw s.is

  pub bcd-placed : Placed k.bcd
  bcd-placed = rw s.is (date-placed c.bcd claim-sound.bcd-date)

  pub start_is : (i : ℕ) → start_of k i ≡ start_in c i
  unfolding start_at starts_of
  start_is i =
      let d = claim-sound.bcd-date in
      let n = month_length c.bcd.year c.bcd.month - c.bcd.day in
      rw s.is
      (by (leb 27 c.bcd.day)
      (λ t. start_at (pick t (Before n) (After (c.bcd.day - 1))) i ≡ start_in c i)
      (λ q. sym (start-late c d i (omega tests))) (λ q. sym (start-early c d i (omega tests))))

  pub closing-is : (b e : ℕ) → closing_within k.closing b e ≡ pick (closed_in c b e) (Some (closing_at c)) None
  unfolding closing_within closed_in
  closing-is b e = rw s.is (within (is_closed c))
    where
      t : ℕ
      t = termination_day c

      within : (z : Bool) → closing_within (pick z (Some (closing_at c)) None) b e ≡ pick (z && leb b t && leb t e) (Some (closing_at c)) None
      within false = refl
      within true = refl

  pub from_is : (w : MonthDay) → (from_of k w).day.0 ≡ exposed_from c w.day.0
  unfolding exposed_from
  from_is w = rw s.is (later-day (month_day c.bcd) w)

  pub from-placed : (w : MonthDay) → Placed w → Placed (from_of k w)
  from-placed w p = later-placed k.bcd w bcd-placed p

  pub to_is : (w : MonthDay) → (to_of k w).day.0 ≡ exposed_to c w.day.0
  unfolding to_at exposed_to
  to_is w = rw s.is (to (is_closed c))
    where
      to : (z : Bool) → (to_at (pick z (Some (closing_at c)) None) w).day.0 ≡ pick z (min w.day.0 (termination_day c)) w.day.0
      to false = refl
      to true =
          by (ltb (termination_day c) w.day.0) (λ t. (pick t (month_day c.termination) w).day.0 ≡ min w.day.0 (termination_day c))
          (λ q. omega tests) (λ q. omega tests)

  pub to-placed : (w : MonthDay) → Placed w → Placed (to_of k w)
  unfolding to_at
  to-placed w p = rw s.is (to (is_closed c) (λ z. date-placed c.termination (claim-sound.termination-date z)))
    where
      to : (z : Bool) → (z ≡ true → Placed (month_day c.termination)) → Placed (to_at (pick z (Some (closing_at c)) None) w)
      to false h = p
      to true h = by (ltb (termination_day c) w.day.0) (λ t. Placed (pick t (month_day c.termination) w)) (λ _. h refl) (λ _. p)

  -- of a closed claim
  closing-u-is : (a p : ℕ) → closing_of (closing_at c) a p ≡ closing_u c a p
  unfolding closing_of closing_u
  closing-u-is a p = refl

  -- of the month that holds l
  pub last-u-is : (w : MonthWindow) (a p : ℕ) → exposed_to c w.last.day.0 ≤ p
      → u_at (closing_within k.closing w.first.day.0 w.last.day.0) (to_of k w.last).day.0 a p ≡ month_u c w.first.day.0 w.last.day.0 a p
  unfolding u_at month_u
  last-u-is w a p h =
      let b = w.first.day.0 in
      let e = w.last.day.0 in
      rw (closing-is b e, to_is w.last, le-ltb p (exposed_to c e))
      (by (closed_in c b e)
      (λ t. u_at (pick t (Some (closing_at c)) None) (exposed_to c e) a p ≡ pick t (closing_u c a p) (30 - (p - exposed_to c e)))
      (λ q. closing-u-is a p) (λ q. refl))

  pub last-category-is : (w : MonthWindow) (a p : ℕ) → a ≤ exposed_to c w.last.day.0 → exposed_to c w.last.day.0 ≤ p
      → category_at (closing_within k.closing w.first.day.0 w.last.day.0) ≡ closing_category c w.first.day.0 w.last.day.0 a p
  unfolding category_at closing_category exposed_to
  last-category-is w a p f l =
      let b = w.first.day.0 in
      let e = w.last.day.0 in
      let t = termination_day c in
      rw (closing-is b e)
      (by (closed_in c b e)
      (λ y. closed_in c b e ≡ y → category_at (pick y (Some (closing_at c)) None) ≡ pick (y && leb a t && leb t p) (category c) 0)
      (λ q u.
      let z = closed_of c b e q in
      let f1 : a ≤ min e t = rw z.0 at f in
      let l1 : min e t ≤ p = rw z.0 at l in
      rw (le-leb a t (omega (tests, z.2)), le-leb t p (omega (tests, z.2))))
      (λ q u. refl) refl)

  -- a day on which a claim month starts
  pub start-placed : (x : MonthDay) → first_month ≤ x.month → x.day.0 ≡ start_in c x.month → x.day.0 ≤ last_day_number → Placed x
  start-placed x l e h =
      let d = claim-sound.bcd-date in
      let n = month-step x.month l in
      let low = start-low c d x.month in
      let high = start-high c d x.month in
      record { high = h; month_is = sym (month-of-unique x.month x.day.0 l (omega tests) (omega tests)) }
