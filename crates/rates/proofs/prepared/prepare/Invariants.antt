use Prim.Native.Nat.{◌+◌, ◌-◌, ◌*◌, ◌≤◌}
use mathlib.Core.Path.{◌≡◌}
use lib.ListN.{length, drop}
use Rattle.rates.specs.design.Prepared.{numbers_of_cell}
use Rattle.rates.proofs.Preparing.{CellsDone}
use Rattle.rates.proofs.prepared.prepare.Given as goal

abbrev pub invariant-loop-cell : goal.invariant-loop-cell
invariant-loop-cell l =
    (l.cell ≤ l.cell-end) × (length l.initial.table ≡ l.last + 1) × (l.last ≡ l.cell-end * 958)
    × (CellsDone (numbers_of_cell l.initial.table) (drop l.last l.initial.table) l.table l.cell-end l.cell)

abbrev pub decreases-loop-cell : goal.decreases-loop-cell
decreases-loop-cell l = l.cell-end - l.cell
