-- `put_short` meets its contract: a number of 32 bits has at most ten digits. Assumes nothing.
use native.Mathlib.Omega.{arith}
use Rattle.report.proofs.Numbers.{short-length}
use Rattle.report.proofs.Texts.{renamed, shorter}
use Rattle.report.specs.Text.{number_text}
use mathlib.Core.Path.{ap}
use Rattle.report.proofs.puts.put_short.Goals as goal

pub returns : goal.returns
returns c = shorter 10 (renamed c.put_number.ensures (ap number_text c.from.ensures)) (short-length c.args.number (omega arith))
