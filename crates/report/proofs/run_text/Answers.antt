-- `run_text` meets its contract. The loop's invariant: the lines passed stand one behind another. Assumes nothing.
use Prim.Native.Nat.{◌+◌, ◌-◌, ◌≤◌}
use mathlib.Core.Path.{◌≡◌}
use native.Mathlib.Omega.{arith}
use borrow.Rule.Slice.PartMut.{put_mid}
use lib.ListN.{length}
use Rattle.claim_file.specs.Runs.{FileRun}
use Rattle.claim_file.specs.design.LentRuns.{with_sums}
use Rattle.report.specs.Text.{run_text, run_line}
use Rattle.report.specs.design.Private.{Put}
use Rattle.report.proofs.Lines.{short, long}
use Rattle.report.proofs.Texts.{renamed, length-kept}
use Rattle.report.proofs.TextLines.{no_lines, all_lines, line-put, lines_more}
use Rattle.report.proofs.run_text.Goals as goal

pub returns-then-text-lt1200 : goal.returns-then-text-lt1200
returns-then-text-lt1200 c =
    let rest = short 1200 c.args.text.now _ (omega arith) in
    record { value = rest.0; text_after = rest.1.0; prefix_len = rest.1.1 }

pub loop-number-init : goal.loop-number-init
loop-number-init c =
    let run_of : FileRun = with_sums c.args.run c.args.sums.now in
    (omega arith, no_lines run_of c.args.text.now)

pub overflow_add-at : goal.overflow_add-at
overflow_add-at c =
    let run_of : FileRun = with_sums c.args.run c.args.sums.now in
    let room : c.loop-number.at + 200 ≤ length c.loop-number.text = let p = c.loop-number.invariant.1 in
    omega (arith, p.behind, p.within, length-kept p, c.if-text-lt1200.false, c.loop-number-test.true) in
    let put-so : Put 200 c.loop-number.text c.loop-number.at (run_line run_of c.loop-number.number) (put_mid c.loop-number.at (c.loop-number.at + 200 - c.loop-number.at) c.loop-number.text c.run_line-at.new.line) (c.loop-number.at + c.run_line-at.result) = line-put c.loop-number.text (run_line run_of c.loop-number.number) c.run_line-at.new.line c.loop-number.at c.run_line-at.result room c.run_line-at.auto.line (c.run_line-at.ensures.value, (c.run_line-at.ensures.line_after, c.run_line-at.ensures.prefix_len)) in
    let p = put-so in
    omega (arith, p.behind, p.within, room)

pub loop-number-preserved : goal.loop-number-preserved
loop-number-preserved c =
    let run_of : FileRun = with_sums c.args.run c.args.sums.now in
    let room : c.loop-number.at + 200 ≤ length c.loop-number.text = let p = c.loop-number.invariant.1 in
    omega (arith, p.behind, p.within, length-kept p, c.if-text-lt1200.false, c.loop-number-test.true) in
    let put-so : Put 200 c.loop-number.text c.loop-number.at (run_line run_of c.loop-number.number) (put_mid c.loop-number.at (c.loop-number.at + 200 - c.loop-number.at) c.loop-number.text c.run_line-at.new.line) (c.loop-number.at + c.run_line-at.result) = line-put c.loop-number.text (run_line run_of c.loop-number.number) c.run_line-at.new.line c.loop-number.at c.run_line-at.result room c.run_line-at.auto.line (c.run_line-at.ensures.value, (c.run_line-at.ensures.line_after, c.run_line-at.ensures.prefix_len)) in (
      omega arith,
      lines_more run_of c.args.text.now c.loop-number.text _ c.loop-number.number c.loop-number.at _ c.loop-number.invariant.1 put-so,
    )

pub returns : goal.returns
returns c =
    let run_of : FileRun = with_sums c.args.run c.args.sums.now in
    let e : c.loop-number.number ≡ 6 = omega arith in
    let p = rw e at c.loop-number.invariant.1 in let rest = long 1200 c.args.text.now (run_text run_of) _ _ 1200 (omega arith) (omega arith) (renamed p (all_lines run_of)) in
    record { value = rest.0; text_after = rest.1.0; prefix_len = rest.1.1 }

pub overflow_add-end : goal.overflow_add-end
overflow_add-end c =
    let room : c.loop-number.at + 200 ≤ length c.loop-number.text = let p = c.loop-number.invariant.1 in
    omega (arith, p.behind, p.within, length-kept p, c.if-text-lt1200.false, c.loop-number-test.true) in
    omega (arith, room)

pub slice_bounds-run_line-end : goal.slice_bounds-run_line-end
slice_bounds-run_line-end c =
    let room : c.loop-number.at + 200 ≤ length c.loop-number.text = let p = c.loop-number.invariant.1 in
    omega (arith, p.behind, p.within, length-kept p, c.if-text-lt1200.false, c.loop-number-test.true) in
    room

pub shape_of-text : goal.shape_of-text
shape_of-text c = length-kept c.loop-number.invariant.1
