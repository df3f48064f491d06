-- `put_count` meets its contract: a space, and the number behind it. Assumes nothing.
use Rattle.report.specs.Text.{count_column}
use Rattle.report.proofs.Texts.{and_then}
use Rattle.report.proofs.puts.put_count.Goals as goal

pub returns : goal.returns
unfolding count_column
returns c = and_then c.put_byte-at.ensures c.put_short.ensures
