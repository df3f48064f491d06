use Prim.Native.Nat.{◌-◌, ◌*◌, ◌≤◌}
use Rattle.claim_file.specs.design.LentRuns.{with_sums}
use Rattle.report.specs.design.Private.{Put}
use Rattle.report.proofs.TextLines.{first_lines}
use Rattle.report.proofs.run_text.Given as goal

abbrev pub invariant-loop-number : goal.invariant-loop-number
invariant-loop-number l =
    (l.number ≤ 6) × Put (200 * l.number) l.initial.text 0 (first_lines (with_sums l.run l.sums) l.number) l.text l.at

abbrev pub decreases-loop-number : goal.decreases-loop-number
decreases-loop-number l = 6 - l.number
