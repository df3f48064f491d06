-- `ltd_study::input::are_rates` meets its contract: the three tests one after the other. Assumes nothing.
use Prim.Native.Nat.{◌+◌, ◌*◌, ◌%◌}
use mathlib.Core.Path.{sym, ◌∙◌}
use borrow.Author.Tests.{eqb-true, eqb-false, not-true, not-false}
use Rattle.ltd_study.proofs.Answers.{both}
use Rattle.ltd_study.proofs.Rates.{fit-failed, fit-part, fit-whole}
use Rattle.ltd_study.proofs.input.are_rates.Goals.{then-not-filled, else-not-filled}
use Rattle.ltd_study.proofs.input.are_rates.Goals as goal

pub returns-then-filled-eq0 : goal.returns-then-filled-eq0
returns-then-filled-eq0 c =
    let f = c.args.filled in
    elim c.if-not-filled.branch [
      | then-not-filled w ↦ fit-whole f.failed c.args.rates f.count (not-true _ w.if-not-filled.true) (eqb-true (f.count % 4) 0 (sym w.value-is ∙ c.if-filled-eq0.true))
      | else-not-filled w ↦ both (sym c.if-filled-eq0.true ∙ w.value-is ∙ w.if-not-filled.false)
    ]

pub returns-else-filled-eq0 : goal.returns-else-filled-eq0
returns-else-filled-eq0 c =
    let f = c.args.filled in
    elim c.if-not-filled.branch [
      | then-not-filled w ↦ c.if-filled-eq0.false ∙ fit-part f.failed c.args.rates f.count (not-true _ w.if-not-filled.true) (eqb-false (f.count % 4) 0 (sym w.value-is ∙ c.if-filled-eq0.false))
      | else-not-filled w ↦ c.if-filled-eq0.false ∙ fit-failed f.failed (4 * c.args.rates + f.count) (not-false _ w.if-not-filled.false)
    ]
