-- `rates::prepared::prepare` meets its contract. The loop's invariant: the cells before `cell` are prepared, and the rest of the table is as it was.
-- The measure is what is left of the cells. Assumes nothing.
use Prim.Native.Nat.{◌+◌, ◌-◌, ◌*◌, ◌/◌}
use mathlib.Core.Path.{◌≡◌, sym, ◌∙◌}
use mathlib.Core.Bool.{true, false}
use native.Mathlib.Omega.{arith}
use lib.ListN.{length, drop, length-set, take-append-drop}
use borrow.Rule.Slice.PartMut.{mid_len}
use Rattle.rates.specs.Rates.{cells}
use Rattle.rates.specs.design.Prepared.{numbers_of_cell, has_mark, prepared, prepare_check, prepare_after}
use Rattle.rates.proofs.Preparing.{sound-length, numbers-length, has_mark-sound, tested, cells-none, cells-more, cells-all}
use Rattle.rates.proofs.prepared.prepare.Goals as goal

pub returns-then-not-is_marked : goal.returns-then-not-is_marked
unfolding prepare_check prepare_after
returns-then-not-is_marked c =
    let table = c.args.table.now in
    let no = tested table 0 _ _ false c.is_marked.ensures (omega arith) (c.if-not-is_marked.true) in
    record { value = simp no; table_after = simp no }

pub overflow_sub-last : goal.overflow_sub-last
overflow_sub-last c =
    let passed : has_mark c.args.table.now 0 ≡ true = tested _ 0 _ _ true c.is_marked.ensures (omega arith) (c.if-not-is_marked.false) in
    let table = c.args.table.now in
    omega (arith, sound-length (length table - 1) (has_mark-sound table 0 passed))

pub loop-cell-init : goal.loop-cell-init
unfolding numbers_of_cell
loop-cell-init c =
    let passed : has_mark c.args.table.now 0 ≡ true = tested _ 0 _ _ true c.is_marked.ensures (omega arith) (c.if-not-is_marked.false) in
    let table = c.args.table.now in
    let s = sound-length (length table - 1) (has_mark-sound table 0 passed) in (
      omega arith,
      omega arith,
      omega arith,
      cells-none (numbers_of_cell table) (drop (length table - 1) table) ((length table - 1) / 958) (omega (arith, numbers-length table)) table _
          (sym (take-append-drop (length table - 1) table)) (omega arith) (omega arith),
    )

pub prepare_cell-requires : goal.prepare_cell-requires
prepare_cell-requires c =
    let at = c.loop-cell in
    mid_len (at.cell * 958) (at.cell * 958 + 958) at.table (omega arith) ∙ omega arith

pub loop-cell-preserved : goal.loop-cell-preserved
loop-cell-preserved c =
    let call = c.prepare_cell in
    let at = c.loop-cell in
    let table = c.args.table.now in (
      omega arith,
      omega arith,
      omega arith,
      cells-more (numbers_of_cell table) (drop (length table - 1) table) ((length table - 1) / 958) (omega (arith, numbers-length table)) at.table at.cell at.invariant.3 call.new.cell (omega arith) call.ensures call.auto.cell,
    )

pub returns : goal.returns
unfolding prepare_check prepare_after prepared cells
returns c =
    let passed : has_mark c.args.table.now 0 ≡ true = tested _ 0 _ _ true c.is_marked.ensures (omega arith) (c.if-not-is_marked.false) in
    let yes = passed in
    let at = c.loop-cell in
    let table = c.args.table.now in
    record {
      value = simp yes;
      table_after = rw (yes, numbers-length table)
          (cells-all (numbers_of_cell table) (drop (length table - 1) table) ((length table - 1) / 958) (omega (arith, numbers-length table)) at.table at.cell
          at.invariant.3 (length table - 1) (omega arith) (omega arith) (omega arith));
    }

pub shape_of-table : goal.shape_of-table
shape_of-table c = simp length-set (omega arith)
