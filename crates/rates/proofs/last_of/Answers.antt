-- `rates::last_of` meets its contract: each arm has the definition's tests that lead there. Assumes nothing.
use Prim.Native.Nat.{ℕ}
use mathlib.Core.Path.{refl}
use native.Mathlib.Omega.{arith}
use borrow.Author.Tests.{ne_eqb}
use Rattle.rates.specs.Rates.{last_of}
use Rattle.rates.proofs.last_of.Goals as goal

pub returns-in-1 : goal.returns-in-1
unfolding last_of
returns-in-1 c = rw c.in-1.is refl

pub returns-in-2 : goal.returns-in-2
unfolding last_of
returns-in-2 c = rw c.in-2.is refl

pub returns-in-3 : goal.returns-in-3
unfolding last_of
returns-in-3 c = rw c.in-3.is refl

pub returns-in-4 : goal.returns-in-4
unfolding last_of
returns-in-4 c = rw c.in-4.is refl

pub returns-in_default : goal.returns-in_default
unfolding last_of
returns-in_default c = let g : ℕ = c.args.group in simp (ne_eqb g 1 (omega arith), ne_eqb g 2 (omega arith), ne_eqb g 3 (omega arith), ne_eqb g 4 (omega arith))
