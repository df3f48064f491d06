-- `plus_row` meets its contract. Invariant: the first `column` sums stand. Measure: the columns left. Assumes nothing.
use Prim.Native.Nat.{ℕ, ◌+◌, ◌≤◌, ◌<◌}
use mathlib.Core.Path.{◌≡◌}
use mathlib.Core.Bool.{true}
use mathlib.Core.List.{List}
use native.Mathlib.Omega.{arith}
use lib.ListN.{get_or}
use Rattle.basics.specs.Tables.{all_at_most}
use Rattle.basics.proofs.Tables.{list-table, at-most-at}
use Rattle.claim_file.specs.design.Private.{plus_row}
use Rattle.claim_file.proofs.CheckColumns.{plus-place}
use Rattle.claim_file.proofs.check_sum.plus_row.Goals as goal

-- the sum at a place that the contract lets fit
both-low : (a b : List ℕ) (k : ℕ) → k < 16 → all_at_most 65535 (plus_row a b) ≡ true → get_or a k 0 + get_or b k 0 ≤ 65535
both-low a b k h e = omega (arith, plus-place a b k h, at-most-at 65535 (plus_row a b) k e)

pub overflow_add-row : goal.overflow_add-row
overflow_add-row c = omega (arith, both-low _ _ c.loop-column.column (omega arith) c.requires)

pub returns : goal.returns
unfolding plus_row
returns c =
    let l = c.loop-column in
    let s = c.args in
    list-table 16 (λ i. get_or s.a.now i 0 + get_or s.b.now i 0) 0 l.row l.invariant.1 (λ i h. l.invariant.2 i (omega arith))
