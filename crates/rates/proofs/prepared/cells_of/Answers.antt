-- `rates::prepared::cells_of` meets its contract: a prepared table has its mark beside the cells. Assumes nothing.
use Prim.Native.Nat.{◌/◌, ◌≤◌}
use mathlib.Core.Path.{sym, ◌∙◌}
use native.Mathlib.Omega.{arith}
use lib.ListN.{length}
use Rattle.rates.proofs.TableForms.{formed-cells, formed-few, unformed-cells}
use Rattle.rates.proofs.prepared.cells_of.Goals as goal

pub overflow_cast-result : goal.overflow_cast-result
overflow_cast-result c =
    let few : length c.args.table.now / 958 ≤ 1024 = let a = c.args in formed-few a.kind a.table.now (sym c.is_formed.ensures ∙ c.if-is_formed.true) in
    omega (arith, few)

pub returns-then-is_formed : goal.returns-then-is_formed
returns-then-is_formed c = let a = c.args in sym (formed-cells a.kind a.table.now (sym c.is_formed.ensures ∙ c.if-is_formed.true))

pub returns : goal.returns
returns c = let a = c.args in sym (unformed-cells a.kind a.table.now (sym c.is_formed.ensures ∙ c.if-is_formed.false))
