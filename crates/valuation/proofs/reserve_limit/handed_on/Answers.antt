-- `valuation::reserve_limit::handed_on` meets its contract: each arm has the tests that pick its number.
-- Assumes nothing.
use Prim.Native.Nat.{ℕ}
use native.Mathlib.Omega.{arith}
use borrow.Author.Tests.{ne_eqb}
use Rattle.valuation.specs.design.Private.{handed_on}
use Rattle.valuation.proofs.reserve_limit.handed_on.Goals as goal

pub returns-in-6 : goal.returns-in-6
unfolding handed_on
returns-in-6 c = rw c.in-6.is

pub returns-in-7 : goal.returns-in-7
unfolding handed_on
returns-in-7 c = rw c.in-7.is

pub returns-in-8 : goal.returns-in-8
unfolding handed_on
returns-in-8 c = rw c.in-8.is

pub returns-in-12 : goal.returns-in-12
unfolding handed_on
returns-in-12 c = rw c.in-12.is

pub returns-in_default : goal.returns-in_default
unfolding handed_on
returns-in_default c =
    let n : ℕ = c.args.number in
    simp (ne_eqb n 6 (omega arith), ne_eqb n 7 (omega arith), ne_eqb n 8 (omega arith), ne_eqb n 12 (omega arith))
