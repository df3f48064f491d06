-- `head_line` meets its contract: a list that is too short is left as it is, and another begins with the head. Assumes nothing.
use native.Mathlib.Omega.{arith}
use Rattle.report.proofs.Lines.{short, long}
use Rattle.report.specs.Text.{table_head}
use Rattle.report.proofs.head_line.Goals as goal

pub returns-then-line-lt200 : goal.returns-then-line-lt200
returns-then-line-lt200 c =
    let rest = short 200 c.args.line.now _ (omega arith) in
    record { value = rest.0; line_after = rest.1.0; prefix_len = rest.1.1 }

pub returns : goal.returns
unfolding table_head
returns c =
    let rest = long 200 c.args.line.now _ _ _ 51 (omega arith) (omega arith) c.put_text.ensures in
    record { value = rest.0; line_after = rest.1.0; prefix_len = rest.1.1 }
