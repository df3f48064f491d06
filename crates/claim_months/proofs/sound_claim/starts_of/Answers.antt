-- `claim_months::sound_claim::starts_of` meets its contract: the month ends as many days after BCD as its length says.
-- Assumes nothing.
use Prim.Native.Nat.{ℕ, ◌+◌, ◌-◌, ◌≤◌, ◌<◌}
use mathlib.Core.Path.{◌≡◌, ap}
use mathlib.Core.Bool.{true}
use Rattle.std.specs.Prelude.{Option, unwrap_or}
use Rattle.basics.specs.declared.Day.{Day}
use native.Mathlib.Omega.{arith}
use borrow.Author.Tests.{le-leb, lt-leb}
use Rattle.calendar.specs.declared.Date.{Date}
use Rattle.calendar.specs.Calendar.{is_date, day_number, month_length, month_index}
use Rattle.calendar.specs.DayAnswers.{last_day}
use Rattle.calendar.proofs.Laws.{date-bounds, date-in-month}
use Rattle.claim_months.specs.declared.MonthDay.{MonthDay}
use Rattle.claim_months.specs.declared.Starts.TheVariants.{After, Before}
use Rattle.claim_months.specs.design.Private.{as_day, month_day, starts_of}
use Rattle.claim_months.proofs.Checked.{last_found}
use Rattle.claim_months.proofs.sound_claim.starts_of.Goals as goal

late : (d : Date) (n : ℕ) → 27 ≤ d.day → n ≡ month_length d.year d.month - d.day → Before n ≡ starts_of d
unfolding starts_of
late d n h e = rw (le-leb 27 d.day) (ap Before e)

early : (d : Date) (n : ℕ) → d.day < 27 → n ≡ d.day - 1 → After n ≡ starts_of d
unfolding starts_of
early d n h e = rw (lt-leb 27 d.day) (ap After e)

-- the month ends as many days after BCD as its length says
month-end : (d : Date) (b : MonthDay) → is_date d ≡ true → b ≡ month_day d → (o : Option Day) → o ≡ last_day b.month → (x : Day) → x ≡ unwrap_or o (as_day 0)
    → x.0 ≡ b.day.0 + (month_length d.year d.month - d.day)
month-end d b h e o k x u =
    let i = month_index d.year d.month in
    let p = date-in-month d h in
    let m : b.month ≡ i = rw e in
    let n : b.day.0 ≡ day_number d = rw e in
    let f = last_found i (omega arith) (omega arith) in
    let found : x.0 ≡ (unwrap_or (last_day i) (as_day 0)).0 = rw (u, k, m) in
    omega (arith, date-bounds d h)

pub overflow_sub-days : goal.overflow_sub-days
overflow_sub-days c =
    let end = month-end c.args.date c.args.bcd c.requires.date_value c.requires.bcd_value _ (c.last_day.ensures) _ c.unwrap_or.ensures in
    omega (arith, end)

pub returns-then-date-ge27 : goal.returns-then-date-ge27
returns-then-date-ge27 c =
    let end = month-end c.args.date c.args.bcd c.requires.date_value c.requires.bcd_value _ (c.last_day.ensures) _ c.unwrap_or.ensures in
    late c.args.date _ (omega arith) (omega (arith, end))

pub overflow_sub-result : goal.overflow_sub-result
overflow_sub-result c = omega (arith, date-bounds _ c.requires.date_value)

pub returns : goal.returns
returns c = early c.args.date _ (omega arith) (omega (arith, c.from.ensures))
