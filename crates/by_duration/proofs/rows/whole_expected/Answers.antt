-- `rows::whole_expected` meets its contract: both rates are differences of running sums.
-- Assumes nothing.
use Rattle.std.proofs.Common.{◌+◌, ◌-◌, ℤ, ◌*ℤ◌, ap, refl, ◌∙◌, to_z-of_z, w64}
use Rattle.by_duration.proofs.SpanRows.{recovery-between, death-between}
use Rattle.by_duration.proofs.rows.whole_expected.Goals as goal

pub returns-clause-recoveries_value : goal.returns-clause-recoveries_value
returns-clause-recoveries_value c =
    let a = c.args in
    let q = c.requires in
    to_z-of_z {w = w64} (record { sfits = c.whole_rate.type_inv }) ∙ (rw (to_z-of_z {w = w64} c.ranges.thirtieths) at c.whole_rate.ensures)
    ∙ ap (λ (z : ℤ). z *ℤ a.thirtieths) (recovery-between a.part.now a.duration (a.duration - 2) q.part_len q.duration_low q.duration_high refl)

pub returns-clause-deaths_value : goal.returns-clause-deaths_value
returns-clause-deaths_value c =
    let a = c.args in
    let q = c.requires in
    to_z-of_z {w = w64} (record { sfits = c.whole_rate-2.type_inv }) ∙ (rw (to_z-of_z {w = w64} c.ranges.thirtieths) at c.whole_rate-2.ensures)
    ∙ ap (λ (z : ℤ). z *ℤ a.thirtieths) (death-between a.part.now a.duration (477 + a.duration) q.part_len q.duration_low q.duration_high refl)
