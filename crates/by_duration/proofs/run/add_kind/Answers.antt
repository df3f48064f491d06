-- `run::add_kind` meets its contract. Invariant: run, bytes and rows so far come to what the run's start, all bytes and the first rows come to.
-- Assumes nothing.
use Rattle.std.proofs.Common.{◌≡◌, ◌+◌, ◌-◌, length, sym, ap, ◌∙◌, arith, length-drop}
use mathlib.Core.Path.{subst⁻¹}
use Rattle.basics.specs.Tables.{table}
use Rattle.study.specs.Sums.{none}
use Rattle.claim_file.specs.design.LentRuns.{with_sums}
use Rattle.claim_file.proofs.Runs.{part-is, rest-is}
use Rattle.by_duration.specs.design.Private.{Fit}
use Rattle.by_duration.proofs.Raised.{raised-length, raised-fit}
use Rattle.by_duration.proofs.RowsTaken.{taken-grows, block-records, goes-on, going-first, going-last, run-last}
use Rattle.by_duration.proofs.run.add_kind.Goals as goal

pub loop-at-init : goal.loop-at-init
unfolding none table
loop-at-init c = (omega arith, c.requires.rows_len, c.requires.fit, going-first c.args.kind c.args.n c.args.table.now _ c.args.file.now c.args.rows.now c.start-run.ensures)

pub overflow_sub-run : goal.overflow_sub-run
unfolding with_sums
overflow_sub-run c =
    let l = c.loop-at in
    let d = length-drop l.at c.args.file.now in
    taken-grows _ _ _ _ _ _ _ _ _ l.invariant.3 (omega (arith, c.loop-at-test.true)) _ (part-is c.args.file.now l.at (l.at + c.min.result) (omega (arith, c.min.ensures))) _ c.feed_lent-run.ensures

pub add_block-requires-clause-records : goal.add_block-requires-clause-records
unfolding with_sums
add_block-requires-clause-records c =
    let l = c.loop-at in
    let d = length-drop l.at c.args.file.now in
    block-records _ _ _ _ _ _ _ _ _ l.invariant.3 (omega (arith, c.loop-at-test.true)) _ (part-is c.args.file.now l.at (l.at + c.min.result) (omega (arith, c.min.ensures))) _ c.feed_lent-run.ensures

pub loop-at-preserved : goal.loop-at-preserved
unfolding with_sums
loop-at-preserved c =
    let l = c.loop-at in
    let d = length-drop l.at c.args.file.now in
    let e = c.add_block.ensures in
    let to : l.at + c.min.result ≡ l.at + (512 - (512 - (length c.args.file.now - l.at))) = omega (arith, c.min.ensures) in (
      omega (arith, c.min.ensures),
      ap length e ∙ raised-length l.rows _ ∙ l.invariant.1,
      subst⁻¹ Fit e (raised-fit l.rows _),
      goes-on _ _ _ _ _ _ _ _ _ l.invariant.3 (omega (arith, c.loop-at-test.true)) _ (part-is c.args.file.now l.at (l.at + c.min.result) to) _ c.feed_lent-run.ensures
          _ _ (sym (rest-is c.args.file.now l.at (l.at + c.min.result) l.invariant.0 to)) e,
    )

pub returns-clause-run : goal.returns-clause-run
unfolding none table
returns-clause-run c =
    let l = c.loop-at in
    let d = length-drop l.at c.args.file.now in
    c.with_sums.ensures ∙ c.end.ensures l.sums ∙ run-last c.args.kind c.args.n c.args.table.now _ _ _ _ _ _ c.start-run.ensures (omega (arith, c.loop-at-test.false)) l.invariant.3

pub returns-clause-rows_after : goal.returns-clause-rows_after
unfolding none table
returns-clause-rows_after c =
    let l = c.loop-at in
    let d = length-drop l.at c.args.file.now in
    going-last c.args.kind c.args.n c.args.table.now _ _ _ _ _ _ c.start-run.ensures l.invariant.2 (omega (arith, c.loop-at-test.false)) l.invariant.3
