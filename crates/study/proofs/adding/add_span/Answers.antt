-- `study::adding::add_span` meets its contract: each way out is one of the answers of `SpanAdds`.
-- Assumes nothing.
use mathlib.Core.Path.{◌≡◌, sym}
use native.Mathlib.Omega.{arith}
use Prim.Native.Nat.{◌+◌, ◌*◌, ◌≤◌}
use lib.ListN.{length}
use Rattle.std.proofs.lemmas.Result.{err_from_is_err_and}
use Rattle.rates.specs.design.Prepared.{table_check_of}
use Rattle.rates.proofs.Parts.{lent-part, cell-within}
use Rattle.study.proofs.SpanAdds.{rates-refused, many-taken, no_room, span-taken}
use Rattle.study.proofs.adding.add_span.Goals as goal
use Rattle.study.proofs.adding.add_span.Goals.{then-taken-ge-MOST_CLAIMS-via-then-taken-ge-MOST_CLAIMS, then-taken-ge-MOST_CLAIMS-via-else-taken-ge-MOST_CLAIMS+then-not-room}

pub returns-in_err-check_of : goal.returns-in_err-check_of
returns-in_err-check_of c =
    let rest = rates-refused _ _ _ _ _ _ _ _ c.in_err-check_of.field-0.0 c.in_err-check_of.ensures in
    let p = err_from_is_err_and c.from_residual.result c.from_residual.ensures.1 in
    record { value = rw (p.1, p.2) rest.0; sums_after = rest.1 }

pub returns-then-taken-ge-MOST_CLAIMS : goal.returns-then-taken-ge-MOST_CLAIMS
returns-then-taken-ge-MOST_CLAIMS c =
    let passed : let a = c.args in table_check_of a.table.now.kind a.table.now.numbers.now a.cell.0 ≡ 0 = sym c.in_ok-check_of.ensures in
    elim c.then-taken-ge-MOST_CLAIMS.branch [
      | then-taken-ge-MOST_CLAIMS-via-then-taken-ge-MOST_CLAIMS w ↦ let rest = many-taken _ _ _ _ _ _ _ _ passed (omega arith) in record { value = rest.0; sums_after = rest.1 }
      | then-taken-ge-MOST_CLAIMS-via-else-taken-ge-MOST_CLAIMS+then-not-room w ↦ let rest = no_room _ _ _ _ _ _ _ _ passed w.if-not-room.true in record { value = rest.0; sums_after = rest.1 }
    ]

pub slice_bounds-add-end : goal.slice_bounds-add-end
slice_bounds-add-end c =
    let passed : let a = c.args in table_check_of a.table.now.kind a.table.now.numbers.now a.cell.0 ≡ 0 = sym c.in_ok-check_of.ensures in
    let whole : let a = c.args in a.cell.0 * 958 + 958 ≤ length a.table.now.numbers.now = let a = c.args in cell-within a.table.now.kind a.table.now.numbers.now a.cell.0 passed in
    omega (arith, whole)

pub returns : goal.returns
returns c =
    let passed : let a = c.args in table_check_of a.table.now.kind a.table.now.numbers.now a.cell.0 ≡ 0 = sym c.in_ok-check_of.ensures in
    let a = c.args in let rest = span-taken _ _ _ _ _ _ _ _ passed (omega (arith, c.if-taken-ge-MOST_CLAIMS.false)) c.if-not-room.false _ _ (lent-part a.table.now.numbers.now a.cell.0)
    c.add.ensures in
    record { value = rest.0; sums_after = rest.1 }
