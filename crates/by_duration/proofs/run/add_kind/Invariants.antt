use Rattle.std.proofs.Common.{◌≡◌, ◌-◌, ◌*◌, ◌≤◌, length, drop}
use Rattle.claim_file.specs.design.LentRuns.{with_sums}
use Rattle.by_duration.specs.design.Private.{Fit}
use Rattle.by_duration.proofs.RowsTaken.{Going}
use Rattle.by_duration.proofs.run.add_kind.Given as goal

abbrev pub invariant-loop-at : goal.invariant-loop-at
invariant-loop-at l =
    (l.at ≤ length l.file) × (length l.rows ≡ 8 * l.n) × Fit l.rows
    × Going l.kind l.n l.table (with_sums l.initial.run l.initial.sums) l.file l.initial.rows (with_sums l.run l.sums) (drop l.at l.file) l.rows

abbrev pub decreases-loop-at : goal.decreases-loop-at
decreases-loop-at l = length l.file - l.at
