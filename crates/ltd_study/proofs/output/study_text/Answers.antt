-- `ltd_study::output::study_text` meets its contract. Assumes nothing.
use Prim.Native.Nat.{◌≤◌}
use mathlib.Core.Path.{refl}
use native.Mathlib.Omega.{arith}
use lib.ListN.{length}
use Rattle.basics.specs.Tables.{table}
use Rattle.study.specs.Sums.{none}
use Rattle.claim_file.specs.design.LentRuns.{with_sums}
use Rattle.ltd_study.proofs.Runs.{text_of}
use Rattle.ltd_study.proofs.output.study_text.Goals as goal

pub run_under-run-requires : goal.run_under-run-requires
unfolding none table
run_under-run-requires g c = refl

pub returns : goal.returns
returns g c =
    let old = c.run_under-run.new.buffer in
    let h : 1200 ≤ length old = omega (arith, c.run_under-run.array_long) in
    let e = c.run_text.ensures in
    record { study_text = text_of old c.run_text.new.text (with_sums c.run_under-run.result c.run_under-run.new.sums) c.run_text.result h e.value e.text_after _ _ c.run_under-run.ensures; prefix_len = e.prefix_len }
