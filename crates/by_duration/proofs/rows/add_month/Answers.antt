-- `rows::add_month` meets its contract: three numbers of its row are raised, and no other.
-- Assumes nothing.
use Rattle.std.proofs.Common.{◌∙◌, arith, rules, to_z-of_z, w64, SFits}
use Rattle.by_duration.proofs.Raised.{month-raised}
use Rattle.by_duration.proofs.rows.add_month.Goals as goal

pub raise-requires : goal.raise-requires
raise-requires c = omega arith

pub raise-requires-2 : goal.raise-requires-2
raise-requires-2 c = omega (arith, c.raise.auto.rows)

pub raise-requires-3 : goal.raise-requires-3
raise-requires-3 c = omega (arith, c.raise-2.auto.rows, c.raise.auto.rows)

pub shape_of-rows : goal.shape_of-rows
shape_of-rows c = c.raise-3.auto.rows ∙ c.raise-2.auto.rows ∙ c.raise.auto.rows

pub returns : goal.returns
returns c =
    let expected = c.args.expected in
    let recoveries : SFits w64 expected.recoveries = search rules in
    let deaths : SFits w64 expected.deaths = search rules in
    month-raised c.args.rows.now c.args.row c.args.thirtieths expected.recoveries expected.deaths c.requires.fit c.requires.le_row c.requires.row_in_bounds
    c.raise.new.rows c.raise-2.new.rows c.raise-3.new.rows
    (rw (to_z-of_z {w = w64} c.ranges.thirtieths) at c.raise.ensures) (rw (to_z-of_z {w = w64} recoveries) at c.raise-2.ensures)
    (rw (to_z-of_z {w = w64} deaths) at c.raise-3.ensures)
