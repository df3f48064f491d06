use Prim.Native.Nat.{◌≤◌}
use Rattle.claim_file.proofs.CheckColumns.{Columns}
use Rattle.claim_file.proofs.check_sum.half_sum.Given as goal

abbrev pub invariant-loop-rows : goal.invariant-loop-rows
invariant-loop-rows l = (l.rows ≤ 16) × Columns l.bytes l.at l.rows l.sums l.by_row
