use Prim.Native.Nat.{◌*◌, ◌-◌, ◌≤◌}
use mathlib.Core.Path.{◌≡◌}
use Rattle.claim_file.specs.design.Private.{columns_sum}
use Rattle.claim_file.proofs.check_sum.columns_sum.Given as goal

abbrev pub invariant-loop-column : goal.invariant-loop-column
invariant-loop-column l = (l.column ≤ 16) × (l.sum ≤ 2154240 * l.column) × (l.sum ≡ columns_sum l.sums l.by_row l.at l.column)

abbrev pub decreases-loop-column : goal.decreases-loop-column
decreases-loop-column l = 16 - l.column
