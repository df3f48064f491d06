-- `row_at` meets its contract. Invariant: the first `column` numbers stand. Measure: the columns left. Assumes nothing.
use Prim.Native.Nat.{◌+◌, ◌<◌}
use mathlib.Core.Path.{refl, ◌∙◌}
use native.Mathlib.Omega.{arith}
use lib.ListN.{get_or, length-set}
use Rattle.basics.specs.Tables.{all_at_most}
use Rattle.basics.proofs.Tables.{filled_more, list-table}
use Rattle.claim_file.specs.Bytes.{byte_at}
use Rattle.claim_file.specs.design.Private.{row_at}
use Rattle.claim_file.proofs.CheckColumns.{at-most-set}
use Rattle.claim_file.proofs.check_sum.row_at.Goals as goal

pub loop-column-init : goal.loop-column-init
unfolding all_at_most
loop-column-init c = (omega arith, refl, refl, λ i h. absurd (omega arith))

pub loop-column-preserved : goal.loop-column-preserved
unfolding byte_at
loop-column-preserved c =
    let byte : get_or c.args.bytes.now (c.args.at + c.loop-column.column) 0 < 256 = omega (arith, c.type_inv.bytes (c.args.at + c.loop-column.column)) in
    let l = c.loop-column in
    let s = c.args in (
      omega arith,
      length-set l.row l.column _ ∙ l.invariant.1,
      at-most-set 255 l.row l.column _ l.invariant.2 (omega (arith, byte)),
      filled_more (λ i. byte_at s.bytes.now (s.at + i)) 0 l.row l.column _ (omega arith) l.invariant.3 refl,
    )

pub returns : goal.returns
unfolding row_at
returns c =
    let l = c.loop-column in
    let s = c.args in
    record { value = list-table 16 (λ i. byte_at s.bytes.now (s.at + i)) 0 l.row l.invariant.1 (λ i h. l.invariant.3 i (omega arith)); result_value = l.invariant.2 }
