-- `claim_months::month::start_in` meets its contract: the days that are found are those of a month of the calendar.
-- Assumes nothing.
use Prim.Native.Nat.{ℕ, ◌+◌, ◌-◌}
use mathlib.Core.Path.{◌≡◌, refl}
use native.Mathlib.Omega.{arith}
use Rattle.calendar.specs.Calendar.{month_start, index_length}
use Rattle.calendar.proofs.Laws.{index-length-low, months-rise, end-month}
use Rattle.claim_months.specs.declared.Starts.{Starts}
use Rattle.claim_months.specs.declared.Starts.TheVariants.{After, Before}
use Rattle.claim_months.specs.design.Private.{start_at}
use Rattle.claim_months.proofs.Checked.{first_found, last_found, days_off, days-off-is}
use Rattle.claim_months.proofs.month.start_in.Goals as goal

from_start : (s : Starts) (n i : ℕ) → s ≡ After n → (start_at s i ≡ month_start i + n) × (days_off s ≡ n)
unfolding start_at
from_start s n i h = rw h (refl, refl)

from_end : (s : Starts) (n i : ℕ) → s ≡ Before n → (start_at s i ≡ month_start i + (index_length i - 1) - n) × (days_off s ≡ n)
unfolding start_at
from_end s n i h = rw h (refl, refl)

pub overflow_add-result : goal.overflow_add-result
overflow_add-result c =
    let a = c.args in
    let o = c.requires.of_claim in
    let s = from_start _ _ a.index c.in-After.is in
    let month-start : c.unwrap_or.result.0 ≡ month_start a.index = rw (c.unwrap_or.ensures, c.first_day.ensures) (first_found a.index c.requires.first_month_le_index c.requires.index_le_end_month) in
    omega (arith, end-month, months-rise a.index 25200 (omega arith) (omega arith), days-off-is _ _ o.stands)

pub returns-in-After : goal.returns-in-After
returns-in-After c =
    let a = c.args in
    let month-start : c.unwrap_or.result.0 ≡ month_start a.index = rw (c.unwrap_or.ensures, c.first_day.ensures) (first_found a.index c.requires.first_month_le_index c.requires.index_le_end_month) in
    omega (arith, month-start, (from_start _ _ a.index c.in-After.is).0)

pub overflow_sub-result : goal.overflow_sub-result
overflow_sub-result c =
    let a = c.args in
    let o = c.requires.of_claim in
    let s = from_end _ _ a.index c.in-Before.is in
    let month-end : c.unwrap_or-in-Before.result.0 ≡ month_start a.index + (index_length a.index - 1) = rw (c.unwrap_or-in-Before.ensures, c.last_day.ensures) (last_found a.index c.requires.first_month_le_index c.requires.index_le_end_month) in
    omega (arith, month-end, index-length-low a.index, days-off-is _ _ o.stands)

pub returns-in-Before : goal.returns-in-Before
returns-in-Before c =
    let a = c.args in
    let month-end : c.unwrap_or-in-Before.result.0 ≡ month_start a.index + (index_length a.index - 1) = rw (c.unwrap_or-in-Before.ensures, c.last_day.ensures) (last_found a.index c.requires.first_month_le_index c.requires.index_le_end_month) in
    omega (arith, month-end, (from_end _ _ a.index c.in-Before.is).0)
