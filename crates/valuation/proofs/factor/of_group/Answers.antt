-- `valuation::factor::of_group` meets its contract: each arm has the tests that pick its number.
-- Assumes nothing.
use native.Mathlib.Omega.{arith}
use borrow.Author.Tests.{ne_eqb}
use Rattle.valuation.proofs.factor.of_group.Goals as goal

pub returns-in-2 : goal.returns-in-2
returns-in-2 c = rw c.in-2.is

pub returns-in-3 : goal.returns-in-3
returns-in-3 c = rw c.in-3.is

pub returns-in-4 : goal.returns-in-4
returns-in-4 c = rw c.in-4.is

pub returns-in_default : goal.returns-in_default
returns-in_default c = let g = c.args.group in simp (ne_eqb g 2 (omega arith), ne_eqb g 3 (omega arith), ne_eqb g 4 (omega arith))
