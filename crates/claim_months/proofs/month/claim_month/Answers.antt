-- `claim_months::month::claim_month` meets its contract: in the day's calendar month a claim month starts on the day or before it, or
-- else the one that holds the day started in the calendar month before.
-- Assumes nothing.
use Prim.Native.Nat.{ℕ, ◌+◌, ◌-◌, ◌≤◌, ◌<◌}
use mathlib.Core.Path.{◌≡◌, refl, ap}
use lib.Dec.{leb}
use Rattle.calendar.specs.Calendar.{month_start, first_month}
use Rattle.basics.proofs.Tests.{tests, by}
use Rattle.calendar.proofs.Laws.{months-order, month-step, month-of-low, month-of-start, month-of-end, month-of-high}
use Rattle.claim_months.specs.declared.CheckedClaim.{CheckedClaim}
use Rattle.claim_months.specs.declared.Claim.{Claim}
use Rattle.claim_months.specs.declared.ClaimMonth.{ClaimMonth}
use Rattle.claim_months.specs.declared.MonthDay.{MonthDay}
use Rattle.claim_months.specs.ClaimMonths.{bcd_month, start_in, month_first, month_last}
use Rattle.claim_months.specs.design.Private.{Placed, Stands, OfClaim, start_of, HoldsDay}
use Rattle.claim_months.proofs.Months.{bcd-low, start-bcd, start-low, start-high, start-step}
use Rattle.claim_months.proofs.Checked.{claim-sound, bcd-day-is, bcd-month-is, start_is}
use Rattle.claim_months.proofs.month.claim_month.Goals as goal

-- the month of the day x isn't before BCD's
record Held (k : CheckedClaim) (x : MonthDay) : Type 0 where
  low : first_month ≤ k.bcd.month
  from : k.bcd.month ≤ x.month
  high : x.month < 25200
  start : month_start x.month ≤ x.day.0
  end : x.day.0 < month_start (x.month + 1)

module _ (c : Claim) (k : CheckedClaim) (s : Stands c k) (x : MonthDay) (placed : Placed x) (bcd-first : k.bcd.day.0 ≤ x.day.0) where
  held : Held k x
  held =
      let d = (claim-sound c k s).bcd-date in
      let m = bcd-month-is c k s in
      let n = bcd-day-is c k s in
      let b = bcd-low c d in
      let t = start-low c d (bcd_month c) in
      let u = month-of-end x.day.0 in
      let e = placed.month_is in
      let o : bcd_month c < x.month + 1 =
      months-order (bcd_month c) (x.month + 1) (omega (tests, month-of-low x.day.0)) (omega (tests, start-bcd c d, ap (λ (i : ℕ). month_start (i + 1)) e)) in
      record {
        low = omega tests;
        from = omega tests;
        high = omega (tests, month-of-high x.day.0 placed.high);
        start = omega (tests, month-of-start x.day.0, ap month_start e);
        end = omega (tests, ap (λ (i : ℕ). month_start (i + 1)) e);
      }

  -- if the claim month that starts in the day's month starts after the day, BCD's month is an earlier one
  later : x.day.0 < start_of k x.month → k.bcd.month < x.month
  later h =
      let d = (claim-sound c k s).bcd-date in
      let r = held in
      by (leb x.month k.bcd.month) (λ _. k.bcd.month < x.month)
      (λ q.
      let e : x.month ≡ bcd_month c = omega (tests, bcd-month-is c k s) in
      omega (tests, start_is c k s x.month, ap (start_in c) e, start-bcd c d, bcd-day-is c k s))
      (λ q. omega tests)

  -- the claim month of the month before starts on the day or before it, and that of the month after it later
  before : (i : ℕ) → first_month ≤ i → i + 1 ≡ x.month → start_of k i ≤ x.day.0
  before i h e =
      let r = held in
      omega (tests, start_is c k s i, start-high c (claim-sound c k s).bcd-date i, month-step i h, ap month_start e)

  after : x.day.0 < start_of k (x.month + 1)
  after =
      let r = held in
      omega (tests, start_is c k s (x.month + 1), start-low c (claim-sound c k s).bcd-date (x.month + 1))

  -- and a claim month has 31 days or fewer
  at_most_31 : (i j : ℕ) → first_month ≤ i → i + 1 ≡ j → start_of k j ≤ start_of k i + 31
  at_most_31 i j h e =
      let r = start-step c (claim-sound c k s).bcd-date i h in
      rw (← e) (omega (tests, start_is c k s i, start_is c k s (i + 1)))

  -- claim month p + 1 starts in calendar month i, and the next one in j
  holds : (i j : ℕ) (r : ClaimMonth) → i + 1 ≡ j → r.place + k.bcd.month ≡ i → r.first.0 ≡ start_of k i → r.last.0 + 1 ≡ start_of k j
      → r.first.0 ≤ x.day.0 → x.day.0 ≤ r.last.0 → HoldsDay c x.day.0 r
  unfolding month_first month_last
  holds i j r q e f g l h =
      let m = bcd-month-is c k s in
      let a : bcd_month c + (1 + r.place - 1) ≡ i = omega tests in
      let b : bcd_month c + (1 + r.place + 1 - 1) ≡ j = omega tests in
      record {
        starts = rw a (omega (tests, start_is c k s i));
        ends = rw b (omega (tests, start_is c k s j));
        from = l;
        to = h;
      }

module _ {k : CheckedClaim} {x : MonthDay} (o : OfClaim k) (placed : Placed x) (bcd-first : k.bcd.day.0 ≤ x.day.0) where
  month : Held k x
  month = held _ _ o.stands _ placed bcd-first

  earlier : {n : ℕ} → n ≡ start_of k x.month → x.day.0 < n → k.bcd.month < x.month
  earlier e h = later _ _ o.stands _ placed bcd-first (omega tests)

pub start_in-start-requires : goal.start_in-start-requires
start_in-start-requires c =
    let p = c.requires in
    let m = month p.of_claim p.placed p.day_le_day in
    record { of_claim = c.requires.of_claim; first_month_le_index = omega tests; index_le_end_month = omega tests }

pub overflow_sub-result : goal.overflow_sub-result
overflow_sub-result c =
    let p = c.requires in
    let m = month p.of_claim p.placed p.day_le_day in
    let a = earlier p.of_claim p.placed p.day_le_day c.start_in-start.ensures c.if-at-start.true in
    omega tests

pub overflow_sub-result-then-at-start : goal.overflow_sub-result-then-at-start
overflow_sub-result-then-at-start c =
    let p = c.requires in
    let m = month p.of_claim p.placed p.day_le_day in
    let a = earlier p.of_claim p.placed p.day_le_day c.start_in-start.ensures c.if-at-start.true in
    omega tests

pub overflow_sub-index : goal.overflow_sub-index
overflow_sub-index c =
    let p = c.requires in
    let m = month p.of_claim p.placed p.day_le_day in
    let a = earlier p.of_claim p.placed p.day_le_day c.start_in-start.ensures c.if-at-start.true in
    omega tests

pub start_in-requires : goal.start_in-requires
start_in-requires c =
    let p = c.requires in
    let m = month p.of_claim p.placed p.day_le_day in
    let a = earlier p.of_claim p.placed p.day_le_day c.start_in-start.ensures c.if-at-start.true in
    record { of_claim = c.requires.of_claim; first_month_le_index = omega tests; index_le_end_month = omega tests }

pub invariant_of-result : goal.invariant_of-result
invariant_of-result c =
    let p = c.requires in
    let m = month p.of_claim p.placed p.day_le_day in
    let a = earlier p.of_claim p.placed p.day_le_day c.start_in-start.ensures c.if-at-start.true in
    let i = c.args.at.month in
    let o = c.requires.of_claim in
    let g = at_most_31 _ _ o.stands _ c.requires.placed c.requires.day_le_day (i - 1) i (omega tests) (omega tests) in
    record { at_most_31_days = omega (tests, g, c.start_in.ensures, c.start_in-start.ensures) }

pub returns-then-at-start : goal.returns-then-at-start
returns-then-at-start c =
    let p = c.requires in
    let m = month p.of_claim p.placed p.day_le_day in
    let a = earlier p.of_claim p.placed p.day_le_day c.start_in-start.ensures c.if-at-start.true in
    λ d k.
    let i = c.args.at.month in
    let b = before d _ k _ c.requires.placed c.requires.day_le_day (i - 1) (omega tests) (omega tests) in
    holds d _ k _ c.requires.placed c.requires.day_le_day (i - 1) i _ (omega tests) (omega tests) c.start_in.ensures (omega tests) (omega tests) (omega tests)

pub overflow_sub-result-2 : goal.overflow_sub-result-2
overflow_sub-result-2 c =
    let p = c.requires in
    let m = month p.of_claim p.placed p.day_le_day in
    omega tests

pub overflow_add-index : goal.overflow_add-index
overflow_add-index c =
    let p = c.requires in
    let m = month p.of_claim p.placed p.day_le_day in
    omega tests

pub start_in-requires-2 : goal.start_in-requires-2
start_in-requires-2 c =
    let p = c.requires in
    let m = month p.of_claim p.placed p.day_le_day in
    record { of_claim = c.requires.of_claim; first_month_le_index = omega tests; index_le_end_month = omega tests }

pub overflow_sub-result-3 : goal.overflow_sub-result-3
overflow_sub-result-3 c =
    let next : c.args.at.day.0 < c.start_in-2.result.0 = omega (tests, c.start_in-2.ensures, after _ _ c.requires.of_claim.stands _ c.requires.placed c.requires.day_le_day) in
    let n = next in omega tests

pub invariant_of-result-2 : goal.invariant_of-result-2
invariant_of-result-2 c =
    let p = c.requires in
    let m = month p.of_claim p.placed p.day_le_day in
    let i = c.args.at.month in
    let o = c.requires.of_claim in
    let g = at_most_31 _ _ o.stands _ c.requires.placed c.requires.day_le_day i (i + 1) (omega tests) refl in
    record { at_most_31_days = omega (tests, g, c.start_in-2.ensures, c.start_in-start.ensures) }

pub returns : goal.returns
returns c =
    let p = c.requires in
    let m = month p.of_claim p.placed p.day_le_day in
    let next : c.args.at.day.0 < c.start_in-2.result.0 = omega (tests, c.start_in-2.ensures, after _ _ c.requires.of_claim.stands _ c.requires.placed c.requires.day_le_day) in
    λ d k.
    let i = c.args.at.month in
    let n = next in
    let f = c.start_in-start.ensures in
    holds d _ k _ c.requires.placed c.requires.day_le_day i (i + 1) _ (omega tests) (omega tests) f (omega tests) (omega tests) (omega tests)
