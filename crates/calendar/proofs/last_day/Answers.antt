-- `calendar::last_day` meets its contract: the tests of the index, the day before the next month's entry in the table, and for January 2100, the last
-- entry, the month's length.
-- Assumes nothing.
use Prim.Native.Nat.{ℕ, ◌+◌, ◌≤◌}
use mathlib.Core.Path.{◌≡◌, sym, ap, ◌∙◌}
use native.Mathlib.Omega.{arith}
use Rattle.calendar.specs.Calendar.{index_length, month_start, first_month, end_month}
use Rattle.calendar.specs.DayAnswers.{last_day}
use Rattle.calendar.specs.MonthTable.{entry}
use Rattle.calendar.proofs.TableRule.{table-start}
use Rattle.calendar.proofs.Laws.{month-step, index-length-low, end-month}
use Rattle.calendar.proofs.MonthTable.{month-bounds, last-is, end-length}
use Rattle.calendar.proofs.last_day.Goals as goal

-- entry k is the start of the month after i, on day n
next : (i k n : ℕ) → n ≡ entry k → first_month + k ≡ i + 1 → (first_month ≤ i) × (i ≤ end_month) → (i ≡ end_month → ⊥)
    → n ≡ month_start i + index_length i
next i k n f e b l = f ∙ table-start (i + 1) k e (omega arith) ∙ month-step i b.0

pub returns-then-not-is_month : goal.returns-then-not-is_month
unfolding last_day
returns-then-not-is_month c = simp (sym c.is_month.ensures ∙ c.if-not-is_month.true)

pub returns-then-month-eq-END_MONTH : goal.returns-then-month-eq-END_MONTH
returns-then-month-eq-END_MONTH c =
    let e = c.if-month-eq-END_MONTH.true in
    last-is c.args.month _ (omega arith) (omega arith)
    (omega (arith, ap month_start e, ap index_length e, end-month, end-length))

pub overflow_sub-result : goal.overflow_sub-result
overflow_sub-result c =
    let b = month-bounds c.is_month.ensures c.if-not-is_month.false in
    omega (arith, next c.args.month _ _ c.start.ensures (omega arith) b c.if-month-eq-END_MONTH.false, index-length-low c.args.month)

pub returns : goal.returns
returns c =
    let i = c.args.month in
    let b = month-bounds c.is_month.ensures c.if-not-is_month.false in
    last-is i _ (omega arith) (omega arith)
    (omega (arith, next i _ _ c.start.ensures (omega arith) b c.if-month-eq-END_MONTH.false, index-length-low i))

pub overflow_add-month : goal.overflow_add-month
overflow_add-month c = omega (arith, month-bounds c.is_month.ensures c.if-not-is_month.false)

pub overflow_sub-month : goal.overflow_sub-month
overflow_sub-month c = omega (arith, month-bounds c.is_month.ensures c.if-not-is_month.false)
