-- `run_line` meets its contract: each return by the tests that led there. Assumes nothing.
use mathlib.Core.List.{[]}
use native.Mathlib.Omega.{arith}
use Rattle.report.specs.Text.{table_head, group_line, refusal_line}
use Rattle.report.proofs.Lines.{short, for-line, asked-more, no_line}
use Rattle.report.proofs.RunLines.{stopped-line, stopped_none, head-line, past-line, group-line}
use Rattle.report.proofs.run_line.Goals as goal

pub returns-then-line-lt200 : goal.returns-then-line-lt200
returns-then-line-lt200 c =
    let rest = short 200 c.args.line.now _ (omega arith) in
    record { value = rest.0; line_after = rest.1.0; prefix_len = rest.1.1 }

pub returns-then-number-ne0 : goal.returns-then-number-ne0
returns-then-number-ne0 c =
    let s = c.args in
    let rest = for-line 200 s.line.now [] _ _ _ (stopped_none s.run s.sums.now s.number c.in-Some.stop c.in-Some.is c.if-number-ne0.true) (no_line 200 s.line.now) in
    record { value = rest.0; line_after = rest.1.0; prefix_len = rest.1.1 }

pub returns-in-Some : goal.returns-in-Some
returns-in-Some c =
    let s = c.args in
    let stop = c.in-Some.stop in
    let rest = for-line 200 s.line.now (refusal_line c.from.result stop.block stop.place) _ _ _ (stopped-line s.run s.sums.now s.number stop c.in-Some.is _ c.from.ensures (omega arith))
    (asked-more 64 200 s.line.now _ _ _ (omega arith) (omega arith) (c.refusal_line.ensures.value, (c.refusal_line.ensures.line_after, c.refusal_line.ensures.prefix_len))) in
    record { value = rest.0; line_after = rest.1.0; prefix_len = rest.1.1 }

pub returns-then-number-eq0 : goal.returns-then-number-eq0
returns-then-number-eq0 c =
    let s = c.args in
    let rest = for-line 200 s.line.now table_head _ _ _ (head-line s.run s.sums.now s.number c.in_default.is (omega arith))
    (c.head_line.ensures.value, (c.head_line.ensures.line_after, c.head_line.ensures.prefix_len)) in
    record { value = rest.0; line_after = rest.1.0; prefix_len = rest.1.1 }

pub returns-then-number-gt5 : goal.returns-then-number-gt5
returns-then-number-gt5 c =
    let s = c.args in
    let rest = for-line 200 s.line.now [] _ _ _ (past-line s.run s.sums.now s.number c.in_default.is (omega arith)) (no_line 200 s.line.now) in
    record { value = rest.0; line_after = rest.1.0; prefix_len = rest.1.1 }

pub returns : goal.returns
returns c =
    let s = c.args in
    let rest = for-line 200 s.line.now (group_line s.sums.now s.number) _ _ _ (group-line s.run s.sums.now s.number c.in_default.is (λ q. omega arith) (omega arith))
    (c.group_line.ensures.value, (c.group_line.ensures.line_after, c.group_line.ensures.prefix_len)) in
    record { value = rest.0; line_after = rest.1.0; prefix_len = rest.1.1 }
