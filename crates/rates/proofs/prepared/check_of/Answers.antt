-- `rates::prepared::check_of` meets its contract: the cells that were counted tell the checks 6 and 7, and the cell's part tells check 8.
-- Assumes nothing.
use Prim.Native.Nat.{◌+◌, ◌*◌, ◌≤◌, ◌<◌}
use mathlib.Core.Path.{◌≡◌, sym, ap, ◌∙◌}
use native.Mathlib.Omega.{arith}
use lib.ListN.{length}
use Rattle.basics.specs.Pick.{pick}
use Rattle.rates.specs.design.Private.{part_sound_of}
use Rattle.rates.specs.design.Prepared.{table_check_of}
use Rattle.rates.proofs.Parts.{lent-part}
use Rattle.rates.proofs.TableForms.{no-form, no-cell, cell-in, part-decides}
use Rattle.rates.proofs.prepared.check_of.Goals as goal
use Rattle.rates.proofs.prepared.check_of.Goals.{After-part_sound}

pub returns-then-table-eq0 : goal.returns-then-table-eq0
returns-then-table-eq0 c = let t = c.args.table.now in sym (no-form t.kind t.numbers.now c.args.cell.0 t.cells t.looked_at c.if-table-eq0.true)

pub returns-then-cell-table : goal.returns-then-cell-table
returns-then-cell-table c =
    let t = c.args.table.now in
    let some : 0 < c.args.table.now.cells = omega arith in
    sym (no-cell t.kind t.numbers.now c.args.cell.0 t.cells t.looked_at some c.if-cell-table.true)

pub slice_bounds-part_sound-end : goal.slice_bounds-part_sound-end
slice_bounds-part_sound-end c =
    let t = c.args.table.now in
    let some : 0 < c.args.table.now.cells = omega arith in
    let below : c.args.cell.0 < c.args.table.now.cells = omega arith in
    let whole : c.args.cell.0 * 958 + 958 ≤ length c.args.table.now.numbers.now = cell-in t.kind t.numbers.now c.args.cell.0 t.cells t.looked_at some below in
    omega (arith, whole)

-- the cell's part was looked at
module _ (c : After-part_sound) where
  decides : table_check_of c.args.table.now.kind c.args.table.now.numbers.now c.args.cell.0 ≡ pick c.part_sound.result 0 8
  decides =
      let t = c.args.table.now in
      let some : 0 < c.args.table.now.cells = omega arith in
      let below : c.args.cell.0 < c.args.table.now.cells = omega arith in
      part-decides t.kind t.numbers.now c.args.cell.0 t.cells t.looked_at some c.part_sound.result below
      (c.part_sound.ensures ∙ ap (part_sound_of t.kind) (lent-part t.numbers.now c.args.cell.0))

pub returns-then-part_sound : goal.returns-then-part_sound
returns-then-part_sound c = rw c.if-part_sound.true at (sym (decides (goal.at.returns-then-part_sound c).After-part_sound))

pub returns : goal.returns
returns c = rw c.if-part_sound.false at (sym (decides (goal.at.returns c).After-part_sound))
