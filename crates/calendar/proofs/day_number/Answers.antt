-- `calendar::day_number` meets its contract: a date's bounds come from its test, and the code counts months from 1950 where the definition counts them from year 0.
-- Assumes nothing.
use Prim.Native.Nat.{ℕ, ◌+◌, ◌-◌}
use mathlib.Core.Path.{◌≡◌, sym, ap, ◌∙◌}
use mathlib.Core.Bool.{true}
use native.Mathlib.Omega.{arith}
use Rattle.calendar.specs.declared.Date.{Date}
use Rattle.calendar.specs.Calendar.{is_date, month_index, day_number, first_month}
use Rattle.calendar.specs.DayAnswers.{day_of}
use Rattle.calendar.specs.MonthTable.{entry}
use Rattle.calendar.proofs.TableRule.{table-start}
use Rattle.calendar.proofs.Laws.{DateBounds, date-bounds, day-last}
use Rattle.calendar.proofs.MonthTable.{day-is}
use Rattle.calendar.proofs.day_number.Goals as goal

-- its number, as the code counts: m months after January 1950 to its own, which starts on day s
number : (d : Date) (m s : ℕ) → s ≡ entry m → DateBounds d → first_month + m ≡ month_index d.year d.month → s + (d.day - 1) ≡ day_number d
unfolding day_number month_index
number d m s f b e = ap (λ (n : ℕ). n + (d.day - 1)) (f ∙ table-start (month_index d.year d.month) m e (omega arith))

pub returns-then-not-is_date : goal.returns-then-not-is_date
unfolding day_of
returns-then-not-is_date c = simp (sym c.is_date.ensures ∙ c.if-not-is_date.true)

pub overflow_sub-months : goal.overflow_sub-months
overflow_sub-months c =
    let dated : is_date c.args.date ≡ true = sym c.is_date.ensures ∙ c.if-not-is_date.false in
    let bounds : DateBounds c.args.date = date-bounds _ dated in
    bounds.year-low

pub overflow_sub-months-2 : goal.overflow_sub-months-2
overflow_sub-months-2 c =
    let dated : is_date c.args.date ≡ true = sym c.is_date.ensures ∙ c.if-not-is_date.false in
    let bounds : DateBounds c.args.date = date-bounds _ dated in
    bounds.month-low

pub overflow_sub-result : goal.overflow_sub-result
overflow_sub-result c =
    let dated : is_date c.args.date ≡ true = sym c.is_date.ensures ∙ c.if-not-is_date.false in
    let bounds : DateBounds c.args.date = date-bounds _ dated in
    omega (arith, bounds)

pub overflow_add-result : goal.overflow_add-result
unfolding month_index
overflow_add-result c =
    let dated : is_date c.args.date ≡ true = sym c.is_date.ensures ∙ c.if-not-is_date.false in
    let bounds : DateBounds c.args.date = date-bounds _ dated in
    let given : Date = c.args.date in
    let numbered : c.start.result.0 + (given.day - 1) ≡ day_number given = let b = bounds in
    number given _ _ c.start.ensures b (omega arith) in
    omega (arith, numbered, day-last _ dated)

pub returns : goal.returns
unfolding month_index
returns c =
    let dated : is_date c.args.date ≡ true = sym c.is_date.ensures ∙ c.if-not-is_date.false in
    let bounds : DateBounds c.args.date = date-bounds _ dated in
    let given : Date = c.args.date in
    let numbered : c.start.result.0 + (given.day - 1) ≡ day_number given = let b = bounds in
    number given _ _ c.start.ensures b (omega arith) in
    day-is given _ dated (omega (arith, numbered))
