-- `study::Study::add_with` meets its contract: the study's own sums are lent, and what they hold afterwards is the answer's.
-- Assumes nothing.
use native.Mathlib.Omega.{arith}
use Prim.Native.Nat.{◌<◌}
use mathlib.Core.Path.{refl, ◌∙◌}
use Rattle.basics.specs.Limits.{most_claims}
use Rattle.basics.specs.Refused.{number_of}
use Rattle.basics.proofs.Refused.{numbered-from-1}
use Rattle.study.proofs.SameAdding.{lent-refused, lent-taken, lent-room}
use Rattle.study.proofs.Study.add_with.Goals as goal

pub returns-in-Err : goal.returns-in-Err
returns-in-Err c =
    let a = c.args in
    c.refused.ensures
    ∙ lent-refused a.kind a.self a.claim a.table.now _ c.has_room-room.ensures (number_of c.in-Err.refusal) _ (rw (c.window_months-window.ensures, c.rate_table-table.ensures.kind_value, c.rate_table-table.ensures.numbers_value) at c.in-Err.ensures.value) (rw (c.window_months-window.ensures, c.rate_table-table.ensures.kind_value, c.rate_table-table.ensures.numbers_value) at c.in-Err.ensures.sums_after)
    (λ z. omega (arith, numbered-from-1 c.in-Err.refusal, z))

pub overflow_add-result : goal.overflow_add-result
overflow_add-result c =
    let few : c.args.self.taken < most_claims = let a = c.args in
    lent-room a.kind a.self a.claim a.table.now _ c.has_room-room.ensures 0 _ (rw (c.window_months-window.ensures, c.rate_table-table.ensures.kind_value, c.rate_table-table.ensures.numbers_value) at c.in_default.ensures.value) (rw (c.window_months-window.ensures, c.rate_table-table.ensures.kind_value, c.rate_table-table.ensures.numbers_value) at c.in_default.ensures.sums_after) refl in
    omega (arith, few)

pub returns : goal.returns
returns c =
    let a = c.args in
    lent-taken a.kind a.self a.claim a.table.now _ c.has_room-room.ensures 0 _ (rw (c.window_months-window.ensures, c.rate_table-table.ensures.kind_value, c.rate_table-table.ensures.numbers_value) at c.in_default.ensures.value) (rw (c.window_months-window.ensures, c.rate_table-table.ensures.kind_value, c.rate_table-table.ensures.numbers_value) at c.in_default.ensures.sums_after) refl
