-- `begin` meets its contract: a block that is not sound is refused, a later one leaves the run, and block 0 opens the study of its window. Assumes nothing.
use mathlib.Core.Path.{◌≡◌, sym, ap, ap₂, ◌∙◌}
use mathlib.Core.Bool.{true}
use mathlib.Core.List.{List}
use lib.IntN.{ℤ}
use Prim.Native.Nat.{ℕ}
use Rattle.basics.specs.Refused.{number_of}
use Rattle.claim_months.specs.Windows.{window_in}
use native.Mathlib.Omega.{arith}
use Rattle.std.proofs.lemmas.Grind.{common_steps}
use Rattle.study.specs.Study.{fresh, first_day_alone, opened, opened_with}
use Rattle.study.specs.Sums.{none}
use Rattle.study.specs.design.PreparedAdding.{lent_study}
use Rattle.claim_file.specs.Runs.{FileRun}
use Rattle.claim_file.specs.declared.LentRun.{LentRun}
use Rattle.claim_file.specs.Block.{block_sound}
use Rattle.claim_file.specs.Run.{started, begun, stops}
use Rattle.claim_file.specs.design.Private.{block_begun}
use Rattle.claim_file.specs.design.LentRuns.{with_sums}
use Rattle.claim_file.proofs.LentRuns.{stops-with, begun-no-window}
use Rattle.claim_file.proofs.run.begin.Goals as goal

pub returns-in-Ok : goal.returns-in-Ok
unfolding with_sums block_begun begun stops opened opened_with fresh
returns-in-Ok c = grind (arith, common_steps)

pub returns-in-Err : goal.returns-in-Err
unfolding with_sums fresh stops started
returns-in-Err c =
    let run_of : FileRun = with_sums c.args.run c.args.sums.now in
    let sound-so : block_sound c.args.run.due c.args.bytes.now ≡ true = sym c.is_sound.ensures ∙ c.if-not-is_sound.false in
    let n = c.in-Err in
    ap (λ (r : LentRun). with_sums r c.clear.new.sums) c.stopped-in-Err.ensures
    ∙ stops-with c.start.result none c.clear.new.sums 0 n.refusal 0
    ∙ ap (λ (r : FileRun). stops r (lent_study r.study.window 0 c.clear.new.sums) (number_of n.refusal) 0) c.start.ensures
    ∙ ap (λ (s : List ℤ). stops started (lent_study first_day_alone 0 s) (number_of n.refusal) 0) c.clear.ensures
    ∙ ap (λ (due : ℕ). record { study = fresh first_day_alone; due = due; refused = number_of n.refusal; block = due; place = 0 }) (sym c.if-run-ne0.false)
    ∙ begun-no-window run_of c.args.bytes.now sound-so c.if-run-ne0.false (number_of n.refusal) (n.ensures ∙ ap₂ window_in c.date_at.ensures c.date_at-2.ensures)
