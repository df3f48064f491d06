-- `study::amounts::whole_months` meets its contract: each month counts 30 thirtieths.
-- Assumes nothing.
use mathlib.Core.Path.{sym, ap, ◌∙◌}
use native.Mathlib.Omega.{arith}
use lib.IntN.{ℤ, pos, ◌*ℤ◌}
use Rattle.basics.proofs.Signed.{result-is}
use Rattle.study.proofs.Banded.{ones}
use Rattle.study.proofs.amounts.whole_months.Goals as goal

pub returns-clause-thirtieths_value : goal.returns-clause-thirtieths_value
returns-clause-thirtieths_value c =
    let a = c.args in
    result-is ◌*ℤ◌ (pos 30) (pos a.months) (omega arith) (omega arith) (omega arith) ∙ ap (λ (z : ℤ). pos 30 *ℤ z) (sym (ones a.from.0 a.months))
