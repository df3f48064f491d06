-- `put_factor` meets its contract: T's column, or nothing. Assumes nothing.
use mathlib.Core.Path.{ap}
use Rattle.report.specs.Text.{count_column, factor_column}
use Rattle.report.proofs.Texts.{and_then, renamed, nothing}
use Rattle.report.proofs.columns.put_factor.Goals as goal

pub returns-in-Ok : goal.returns-in-Ok
unfolding factor_column count_column
returns-in-Ok c = renamed (and_then c.put_byte-next.ensures c.put_number.ensures) (ap factor_column c.in-Ok.ensures)

pub returns-in-Err : goal.returns-in-Err
unfolding factor_column
returns-in-Err c =
    let s = c.args in
    renamed (nothing s.line.now s.at 21) (ap factor_column c.in-Err.ensures)
