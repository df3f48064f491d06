-- `valuation::reserve_limit::replaced_t` meets its contract: the count decides whether group 3 keeps its T. Assumes nothing.
use Prim.Native.Nat.{ℕ}
use borrow.Author.Tests.{lt-leb}
use native.Mathlib.Omega.{arith}
use Rattle.valuation.specs.ReserveLimit.{replaced_t}
use Rattle.valuation.proofs.reserve_limit.replaced_t.Goals as goal

pub returns : goal.returns
unfolding replaced_t
returns c = let n : ℕ = c.args.count in simp (lt-leb 5000 n (omega arith))
