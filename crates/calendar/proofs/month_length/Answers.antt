-- `calendar::month_length` meets its contract: February by the leap rule, and the others by one test that antt computes at each month.
-- Assumes nothing.
use Prim.Native.Nat.{ℕ, ◌+◌, ◌%◌, ◌/◌, ◌≤◌}
use mathlib.Core.Path.{◌≡◌, refl}
use mathlib.Core.Bool.{Bool, true, ◌||◌}
use native.Mathlib.Omega.{arith}
use borrow.Author.Tests.{eq-eqb, ne_eqb, eqb-true}
use lib.Dec.{eqb}
use Rattle.calendar.specs.Calendar.{month_length}
use Rattle.basics.proofs.Tests.{all_below, all-at}
use Rattle.calendar.proofs.month_length.Goals as goal

-- the length that the code computes is right at a month that isn't February
right : ℕ → Bool
right m = eqb m 0 || (eqb m 2 || eqb (30 + (m + m / 8) % 2) (month_length 1 m))

all_right : all_below right 13 ≡ true
unfolding right month_length
all_right = refl

others : (y m : ℕ) → 1 ≤ m → m ≤ 12 → (m ≡ 2 → ⊥) → 30 + (m + m / 8) % 2 ≡ month_length y m
unfolding right month_length
others y m low high f =
    let z : m ≡ 0 → ⊥ = omega arith in
    simp (ne_eqb m 2 f)
    (eqb-true _ _ (simp (ne_eqb m 0 z, ne_eqb m 2 f) at (all-at right 13 all_right m (omega arith))))

pub returns-then-is_leap_year : goal.returns-then-is_leap_year
unfolding month_length
returns-then-is_leap_year c = simp (eq-eqb _ _ c.if-month-eq2.true, ← c.is_leap_year.ensures, c.if-is_leap_year.true)

pub returns-then-month-eq2 : goal.returns-then-month-eq2
unfolding month_length
returns-then-month-eq2 c = simp (eq-eqb _ _ c.if-month-eq2.true, ← c.is_leap_year.ensures, c.if-is_leap_year.false)

pub returns : goal.returns
returns c = others _ _ c.requires.0 c.requires.1 c.if-month-eq2.false
