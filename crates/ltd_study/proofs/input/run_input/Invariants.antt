use Prim.Native.Nat.{◌-◌}
use Rattle.rates.specs.declared.Kind.TheVariants.{Prepared}
use Rattle.claim_file.specs.design.PreparedRuns.{adding_with}
use Rattle.claim_file.specs.design.LentRuns.{with_sums}
use Rattle.ltd_study.proofs.Runs.{FedBlocks}
use Rattle.ltd_study.proofs.input.run_input.Given as goal

abbrev pub invariant-loop-filled : goal.invariant-loop-filled
invariant-loop-filled g l = FedBlocks (g.S.Source.left l.initial.input) (g.S.Source.left l.input) (adding_with Prepared l.table) (with_sums l.run l.sums)

abbrev pub decreases-loop-filled : goal.decreases-loop-filled
decreases-loop-filled g l = 4294967296 - l.run.due
