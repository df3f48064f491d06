use Rattle.rates.proofs.Running.{Summed}
use Rattle.rates.proofs.prepared.run_sums.Given as goal

abbrev pub invariant-loop-number : goal.invariant-loop-number
invariant-loop-number l = Summed l.fn.numbers l.numbers l.sum l.number-index
