use Prim.Native.Nat.{◌*◌}
use Rattle.report.specs.Text.{sum_columns}
use Rattle.report.specs.design.Private.{Put}
use Rattle.report.proofs.columns.put_sums.Given as goal

abbrev pub invariant-loop-column : goal.invariant-loop-column
invariant-loop-column l = Put (21 * l.column) l.initial.line l.at (sum_columns l.sums l.group l.column) l.line l.next
