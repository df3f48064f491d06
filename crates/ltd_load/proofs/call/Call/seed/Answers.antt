-- `Call::seed` meets its contract: a number that it answers passed both tests. Assumes nothing.
use native.Mathlib.Omega.{arith}
use borrow.Author.Tests.{le-leb}
use Rattle.load.specs.Load.{seed_sound}
use Rattle.ltd_load.proofs.call.Call.seed.Goals as goal

pub returns-in-Some-1-to-2147483646 : goal.returns-in-Some-1-to-2147483646
unfolding seed_sound
returns-in-Some-1-to-2147483646 g c = let n = c.in-Some-1-to-2147483646.seed in simp (le-leb 1 n (omega arith), le-leb n 2147483646 (omega arith))
