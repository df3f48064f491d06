-- `put_refusal` meets its contract: words and numbers, one behind another. Assumes nothing.
use mathlib.Core.Path.{ap}
use Rattle.report.specs.Text.{count_column, refusal_line}
use Rattle.report.proofs.Texts.{and_then, renamed}
use Rattle.report.proofs.put_refusal.Goals as goal

pub returns : goal.returns
unfolding refusal_line
returns c =
    and_then c.put_text-at.ensures
    (and_then (renamed c.put_count-at.ensures (ap count_column c.from.ensures))
    (and_then c.put_text-at-2.ensures
    (and_then c.put_count-at-2.ensures
    (and_then c.put_text-at-3.ensures (and_then (renamed c.put_count-at-3.ensures (ap count_column c.from-2.ensures)) c.put_byte.ensures)))))
