-- `rates::prepared::sum_before` meets its contract. Assumes nothing.
use mathlib.Core.Path.{refl}
use native.Mathlib.Omega.{arith}
use Rattle.rates.proofs.Running.{before-first, before-next}
use Rattle.rates.proofs.prepared.sum_before.Goals as goal

pub returns-then-place-gt0 : goal.returns-then-place-gt0
returns-then-place-gt0 c = before-next _ _ _ _ (omega arith) refl

pub returns : goal.returns
returns c = before-first _ _ _ (omega arith)
