-- `valuation::reserve_factor::CheckedMonths::month_rate` meets its contract: a group is from 1 to 5, so the place is one of the five. Assumes nothing.
use native.Mathlib.Omega.{arith}
use Rattle.rates.proofs.Laws.{group-low, group-high}
use Rattle.valuation.specs.Reserve.{group_t, month_rate}
use Rattle.valuation.proofs.reserve_factor.CheckedMonths.month_rate.Goals as goal

pub overflow_sub-place : goal.overflow_sub-place
overflow_sub-place c = omega (arith, group-low c.later-duration.result.0)

pub bounds-t-place : goal.bounds-t-place
bounds-t-place c = omega (arith, group-high c.later-duration.result.0)

pub returns : goal.returns
unfolding month_rate group_t
returns c = rw (c.rate_of.ensures, c.from-place.ensures, c.group.ensures, c.later-duration.ensures)
