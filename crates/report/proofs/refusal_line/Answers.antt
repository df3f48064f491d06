-- `refusal_line` meets its contract: a list that is too short is left as it is, and another begins with the line. Assumes nothing.
use native.Mathlib.Omega.{arith}
use Rattle.report.proofs.Lines.{short, long}
use Rattle.report.proofs.refusal_line.Goals as goal

pub returns-then-line-lt64 : goal.returns-then-line-lt64
returns-then-line-lt64 c =
    let rest = short 64 c.args.line.now _ (omega arith) in
    record { value = rest.0; line_after = rest.1.0; prefix_len = rest.1.1 }

pub returns : goal.returns
returns c =
    let rest = long 64 c.args.line.now _ _ _ 53 (omega arith) (omega arith) c.put_refusal.ensures in
    record { value = rest.0; line_after = rest.1.0; prefix_len = rest.1.1 }
