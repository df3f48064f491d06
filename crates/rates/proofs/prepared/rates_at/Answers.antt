-- `rates::prepared::rates_at` meets its contract: of plain rates the loop's, of running sums a difference. Assumes nothing.
use mathlib.Core.Path.{◌∙◌}
use mir.Syntax.{w64}
use mir.Facts.{to_z-of_z}
use Rattle.rates.specs.design.Prepared.{recovery_of, death_of, rates_over}
use Rattle.rates.proofs.Running.{difference-is}
use Rattle.rates.proofs.prepared.rates_at.Goals as goal

pub returns-in-Plain : goal.returns-in-Plain
unfolding recovery_of death_of rates_over
returns-in-Plain c = rw c.in-Plain.is (record { recoveries_value = c.plain_at.ensures.recoveries_value; deaths_value = c.plain_at.ensures.deaths_value })

-- one difference each, of the sums that start at 0 and at 479
pub returns-in-Prepared-clause-recoveries_value : goal.returns-in-Prepared-clause-recoveries_value
unfolding recovery_of death_of
returns-in-Prepared-clause-recoveries_value c =
    let a = c.args in
    rw c.in-Prepared.is
    (to_z-of_z {w = w64} (record { sfits = c.difference.type_inv })
    ∙ difference-is a.part.now 0 a.first a.months _ _ _ c.requires c.difference.ensures c.sum_before.ensures c.sum_before-in-Prepared.ensures)

pub returns-in-Prepared-clause-deaths_value : goal.returns-in-Prepared-clause-deaths_value
unfolding recovery_of death_of
returns-in-Prepared-clause-deaths_value c =
    let a = c.args in
    rw c.in-Prepared.is
    (to_z-of_z {w = w64} (record { sfits = c.difference-in-Prepared.type_inv })
    ∙ difference-is a.part.now 479 a.first a.months _ _ _ c.requires c.difference-in-Prepared.ensures c.sum_before-in-Prepared-2.ensures
    c.sum_before-in-Prepared-3.ensures)
