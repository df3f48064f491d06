-- `study::amounts::part_month` meets its contract: a month counts its thirtieths.
-- Assumes nothing.
use mathlib.Core.Path.{sym, ap, ◌∙◌}
use native.Mathlib.Omega.{arith}
use native.Mathlib.Nat.{mul-one}
use lib.IntN.{ℤ, pos, ◌*ℤ◌}
use mir.Syntax.{w64}
use mir.Facts.{to_z_pos}
use Rattle.study.proofs.Banded.{ones}
use Rattle.study.proofs.amounts.part_month.Goals as goal

pub returns-clause-thirtieths_value : goal.returns-clause-thirtieths_value
returns-clause-thirtieths_value c =
    let t = c.args.thirtieths.0 in
    to_z_pos w64 (omega arith) ∙ sym (ap (λ (z : ℤ). pos t *ℤ z) (ones c.args.duration.0 1) ∙ ap pos (mul-one t))
