-- `rates::prepared::run_sums` meets its contract. The loop's invariant: the numbers before the index are their running sums, the last of which is
-- `sum`, and the others are as they were. Assumes nothing.
use native.Mathlib.Omega.{arith}
use Rattle.rates.proofs.Running.{summed-none, summed-next, summed-more, summed-all}
use Rattle.rates.proofs.prepared.run_sums.Goals as goal

pub loop-number-init : goal.loop-number-init
loop-number-init c = summed-none _ _ _ (omega arith) (omega arith)

pub overflow_add-sum : goal.overflow_add-sum
overflow_add-sum c =
    let at = c.loop-number in
    omega (arith, summed-next _ _ _ _ at.invariant (omega arith), c.requires.by_index at.number-index)

pub loop-number-preserved : goal.loop-number-preserved
loop-number-preserved c = summed-more _ _ _ _ c.loop-number.invariant (omega arith) c.requires.by_index

pub returns : goal.returns
returns c = summed-all _ _ _ _ c.loop-number.invariant (omega arith)
