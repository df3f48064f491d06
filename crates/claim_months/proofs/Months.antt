-- The claim months of a sound claim follow one another from BCD on, and each has 28 to 31 days.
-- Assumes nothing.
use Prim.Native.Nat.{ℕ, zero, suc, ◌+◌, ◌-◌, ◌*◌, ◌≤◌, ◌<◌}
use mathlib.Core.Path.{◌≡◌, ap, ◌∙◌}
use mathlib.Core.Bool.{true}
use lib.Dec.{leb}
use borrow.Author.Tests.{le-leb, lt-leb}
use native.Mathlib.Nat.{add-zero}
use Rattle.calendar.specs.Calendar.{is_date, month_length, month_start, index_length, last_day_number, first_month}
use Rattle.basics.proofs.Tests.{tests, by}
use Rattle.calendar.proofs.Laws.{date-bounds, date-in-month, index-length-low, index-length-high, length_high, month-step, months-rise, end-month}
use Rattle.claim_months.specs.declared.Claim.{Claim}
use Rattle.claim_months.specs.Claim.{bcd_day}
use Rattle.claim_months.specs.ClaimMonths.{bcd_month, days_to_month_end, start_in, month_first, month_last}

module _ (c : Claim) (d : is_date c.bcd ≡ true) where
  pub bcd-low : first_month ≤ bcd_month c
  unfolding bcd_month
  bcd-low = (date-in-month c.bcd d).low

  pub start-early : (i : ℕ) → c.bcd.day ≤ 26 → start_in c i ≡ month_start i + (c.bcd.day - 1)
  unfolding start_in
  start-early i h = rw (le-leb c.bcd.day 26)

  pub start-late : (i : ℕ) → 26 < c.bcd.day → start_in c i ≡ month_start i + (index_length i - 1) - (month_length c.bcd.year c.bcd.month - c.bcd.day)
  unfolding start_in days_to_month_end
  start-late i h = rw (lt-leb c.bcd.day 26)

  -- the claim month that starts in BCD's month starts on BCD
  pub start-bcd : start_in c (bcd_month c) ≡ bcd_day c
  unfolding bcd_month
  start-bcd =
      let m = date-in-month c.bcd d in
      let r = date-bounds c.bcd d in
      by (leb c.bcd.day 26) (λ _. start_in c (bcd_month c) ≡ bcd_day c) (λ q. omega (tests, start-early (bcd_month c) (omega tests)))
      (λ q. omega (tests, start-late (bcd_month c) (omega tests)))

  -- it starts in calendar month i
  pub start-low : (i : ℕ) → month_start i ≤ start_in c i
  start-low i =
      let r = date-bounds c.bcd d in
      let l = length_high c.bcd.year c.bcd.month in
      let a = index-length-low i in
      by (leb c.bcd.day 26) (λ _. month_start i ≤ start_in c i) (λ q. omega (tests, start-early i (omega tests)))
      (λ q. omega (tests, start-late i (omega tests)))

  pub start-high : (i : ℕ) → start_in c i < month_start i + index_length i
  start-high i =
      let r = date-bounds c.bcd d in
      let a = index-length-low i in
      by (leb c.bcd.day 26) (λ _. start_in c i < month_start i + index_length i) (λ q. omega (tests, start-early i (omega tests)))
      (λ q. omega (tests, start-late i (omega tests)))

  pub start-step : (i : ℕ) → first_month ≤ i → (start_in c i + 28 ≤ start_in c (i + 1)) × (start_in c (i + 1) ≤ start_in c i + 31)
  start-step i h =
      let r = date-bounds c.bcd d in
      let l = length_high c.bcd.year c.bcd.month in
      let a = index-length-low i in
      let b = index-length-high i in
      let a1 = index-length-low (i + 1) in
      let b1 = index-length-high (i + 1) in
      let s = month-step i h in
      by (leb c.bcd.day 26) (λ _. (start_in c i + 28 ≤ start_in c (i + 1)) × (start_in c (i + 1) ≤ start_in c i + 31))
      (λ q. omega (tests, start-early i (omega tests), start-early (i + 1) (omega tests)))
      (λ q. omega (tests, start-late i (omega tests), start-late (i + 1) (omega tests)))

  -- claim month 1 starts on BCD
  pub first-starts : month_first c 1 ≡ bcd_day c
  unfolding month_first
  first-starts = ap (start_in c) (add-zero (bcd_month c)) ∙ start-bcd

  -- the next one starts 28 to 31 days later
  pub next-starts : (k : ℕ) → 1 ≤ k → (month_first c k + 28 ≤ month_first c (k + 1)) × (month_first c (k + 1) ≤ month_first c k + 31)
  unfolding month_first
  next-starts k h =
      let b = bcd-low in
      let e : bcd_month c + (k + 1 - 1) ≡ bcd_month c + (k - 1) + 1 = omega tests in
      rw e (start-step (bcd_month c + (k - 1)) (omega tests))

  -- a claim month ends the day before the next starts
  pub last-next : (k : ℕ) → 1 ≤ k → month_last c k + 1 ≡ month_first c (k + 1)
  unfolding month_last
  last-next k h = let n = next-starts k h in omega tests

  -- claim months rise
  pub starts-rise : (j k : ℕ) → 1 ≤ j → month_first c j + 28 * k ≤ month_first c (j + k)
  starts-rise j zero h = rw (add-zero j) (omega tests)
  starts-rise j (suc k) h =
      let r = starts-rise j k h in
      let n = next-starts (j + k) (omega tests) in
      let e : j + suc k ≡ j + k + 1 = omega tests in
      rw e (omega tests)

  pub bcd-starts : (k : ℕ) → 1 ≤ k → bcd_day c ≤ month_first c k
  bcd-starts k h =
      let e : 1 + (k - 1) ≡ k = omega tests in
      let r : bcd_day c + 28 * (k - 1) ≤ month_first c k = rw e at (rw first-starts at (starts-rise 1 (k - 1) (omega tests))) in
      omega tests

  -- claim month 1,801 starts after the last date
  pub months-end : last_day_number < month_first c 1801
  unfolding month_first
  months-end =
      let b = bcd-low in
      let l = start-low (bcd_month c + 1800) in
      let r = months-rise 25200 (bcd_month c + 1800) (omega tests) (omega tests) in
      let e = end-month in
      omega tests
