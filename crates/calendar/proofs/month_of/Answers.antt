-- `calendar::month_of` meets its contract. That the guess is the month or the one after it is one test that antt computes over the table, at each month's first and last day.
-- Assumes nothing.
use Prim.Native.Nat.{ℕ, ◌+◌, ◌*◌, ◌-◌, ◌/◌, ◌≤◌, ◌<◌}
use mathlib.Core.Path.{◌≡◌, refl}
use mathlib.Core.Bool.{Bool, true, ◌&&◌, and-eq-true_iff}
use native.Mathlib.Omega.{arith}
use lib.Dec.{leb, ltb}
use Rattle.calendar.specs.Calendar.{month_of, last_day_number, first_month}
use Rattle.basics.proofs.Tests.{tests}
use Rattle.basics.proofs.Tables.{all_steps, step-at}
use Rattle.month_starts.specs.MonthStarts.{month_start_days}
use Rattle.calendar.specs.MonthTable.{entry}
use Rattle.calendar.proofs.TableRule.{table-count, table-rule}
use Rattle.calendar.proofs.Laws.{months-order, month-of-low, month-of-start, month-of-end}
use Rattle.calendar.proofs.MonthTable.{month-place, in_entry}
use Rattle.calendar.proofs.month_of.Goals as goal

-- the guess at month k's first day is k or more, and at its last day k + 1 or less
near : ℕ → ℕ → ℕ → Bool
near k x y = leb (1461 * k) (48 * (x + 3)) && ltb (48 * (y + 2)) (1461 * (k + 2))

all_near : all_steps near 0 month_start_days ≡ true
unfolding near month_start_days
all_near = refl

abbrev guess : ℕ → ℕ
guess n = 48 * (n + 3) / 1461

record Near (n : ℕ) : Type 0 where
  low : month_of n ≤ first_month + guess n
  high : first_month + guess n ≤ month_of n + 1

guessed : (n : ℕ) → n ≤ last_day_number → Near n
unfolding near
guessed n h =
    let k = month_of n - first_month in
    let e : first_month + k ≡ month_of n = omega (arith, month-of-low n) in
    let i = in_entry n k h e in
    let t = simp and-eq-true_iff at (step-at near 0 month_start_days all_near k (omega (arith, table-count, month-place n k h e))) in
    omega tests

-- the guess is the month after if that starts later than the day, and the month if not
over : (n s : ℕ) → n ≤ last_day_number → s ≡ entry (guess n) → n < s → (1 ≤ guess n) × (first_month + (guess n - 1) ≡ month_of n)
over n s h e l =
    let g = guessed n h in
    let b = month-of-low n in
    let o = months-order (month_of n) (first_month + guess n) (omega arith) (omega (arith, month-of-start n, table-rule (guess n) (omega arith))) in
    omega arith

met : (n s : ℕ) → n ≤ last_day_number → s ≡ entry (guess n) → s ≤ n → first_month + guess n ≡ month_of n
met n s h e l =
    let g = guessed n h in
    let b = month-of-low n in
    let o = months-order (first_month + guess n) (month_of n + 1) (omega arith) (omega (arith, month-of-end n, table-rule (guess n) (omega arith))) in
    omega arith

pub overflow_sub-result : goal.overflow_sub-result
overflow_sub-result c = (over c.args.day.0 c.start.result.0 c.requires c.start.ensures (omega arith)).0

pub returns-then-number-start : goal.returns-then-number-start
returns-then-number-start c = (over c.args.day.0 c.start.result.0 c.requires c.start.ensures (omega arith)).1

pub returns : goal.returns
returns c = met c.args.day.0 c.start.result.0 c.requires c.start.ensures (omega arith)
