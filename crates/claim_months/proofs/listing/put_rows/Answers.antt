-- `claim_months::listing::put_rows` meets its contract: each turn of the loop writes a row more, and the last leaves all of them.
-- Assumes nothing.
use Prim.Native.Nat.{◌+◌, ◌*◌, ◌≤◌}
use mathlib.Core.Path.{refl, ap, ◌∙◌, subst⁻¹}
use native.Mathlib.Omega.{arith}
use lib.ListN.{length}
use Rattle.claim_months.specs.declared.Span.{Span}
use Rattle.claim_months.specs.design.Private.{Placed}
use Rattle.claim_months.proofs.Checked.{later-placed, from-placed}
use Rattle.claim_months.proofs.Rows.{months-are}
use Rattle.claim_months.proofs.RowTurns.{given, bounds, begin-within, none-written, month-low, month-high, placed, next-late, row-bounds, next-written, all-written}
use Rattle.claim_months.proofs.listing.put_rows.Goals as goal

pub overflow_add-start : goal.overflow_add-start
overflow_add-start c =
    let p = c.requires in
    let g = given c.args.claim c.args.window c.args.months _ _ p.sound_window p.months_for p.months_nonzero c.exposed_from-from.ensures c.exposed_to.ensures _ p.of_claim.stands in
    omega (arith, begin-within _ _ _ _ _ _ _ _ _ g p.months_nonzero)

pub loop-place-init : goal.loop-place-init
loop-place-init c = record { within = omega arith; written = λ d b e n g. none-written _ _ _ _ _ d b e n g c.args.list.now }

pub overflow_add-start-in-loop-place : goal.overflow_add-start-in-loop-place
overflow_add-start-in-loop-place c =
    let p = c.requires in
    let g = given c.args.claim c.args.window c.args.months _ _ p.sound_window p.months_for p.months_nonzero c.exposed_from-from.ensures c.exposed_to.ensures _ p.of_claim.stands in
    omega (arith, month-high _ _ _ _ _ _ _ _ _ g _ _ _ _ (c.loop-place.invariant.written _ _ _ _ g) c.loop-place-test.true)

pub start_in-requires : goal.start_in-requires
start_in-requires c =
    let p = c.requires in
    let g = given c.args.claim c.args.window c.args.months _ _ p.sound_window p.months_for p.months_nonzero c.exposed_from-from.ensures c.exposed_to.ensures _ p.of_claim.stands in
    let w = c.loop-place.invariant.written _ _ _ _ g in
    record {
      of_claim = p.of_claim;
      first_month_le_index = omega (arith, month-low _ _ _ _ _ _ _ _ _ g _ _ _ _ w c.loop-place-test.true);
      index_le_end_month = omega (arith, month-high _ _ _ _ _ _ _ _ _ g _ _ _ _ w c.loop-place-test.true);
    }

pub overflow_add-next : goal.overflow_add-next
overflow_add-next c =
    let p = c.requires in
    let g = given c.args.claim c.args.window c.args.months _ _ p.sound_window p.months_for p.months_nonzero c.exposed_from-from.ensures c.exposed_to.ensures _ p.of_claim.stands in
    omega (arith, month-high _ _ _ _ _ _ _ _ _ g _ _ _ _ (c.loop-place.invariant.written _ _ _ _ g) c.loop-place-test.true)

pub month_row-record-requires : goal.month_row-record-requires
month_row-record-requires c =
    let p = c.requires in
    let g = given c.args.claim c.args.window c.args.months _ _ p.sound_window p.months_for p.months_nonzero c.exposed_from-from.ensures c.exposed_to.ensures _ p.of_claim.stands in
    let b = bounds c.args.claim c.args.window c.args.months p.sound_window p.months_for _ p.of_claim.stands in
    record {
      first_bound = b.first_high;
      place_lt_months = c.loop-place-test.true;
      months_bound = b.months_high;
      le_next = next-late _ _ _ _ _ _ _ _ _ g _ _ _ _ (c.loop-place.invariant.written _ _ _ _ g) c.loop-place-test.true _ c.start_in.ensures;
    }

pub put_row-requires-clause-row_bounds : goal.put_row-requires-clause-row_bounds
put_row-requires-clause-row_bounds c =
    let p = c.requires in
    let g = given c.args.claim c.args.window c.args.months _ _ p.sound_window p.months_for p.months_nonzero c.exposed_from-from.ensures c.exposed_to.ensures _ p.of_claim.stands in
    row-bounds _ _ _ _ _ _ _ _ _ g _ _ _ _ (c.loop-place.invariant.written _ _ _ _ g) c.loop-place-test.true _ c.start_in.ensures _ c.month_row-record.ensures.result_value

pub put_row-requires-clause-placed : goal.put_row-requires-clause-placed
put_row-requires-clause-placed c =
    let p = c.requires in
    let g = given c.args.claim c.args.window c.args.months _ _ p.sound_window p.months_for p.months_nonzero c.exposed_from-from.ensures c.exposed_to.ensures _ p.of_claim.stands in
    let start = placed _ _ _ _ _ _ _ _ _ g _ _ _ _ (c.loop-place.invariant.written _ _ _ _ g) c.loop-place-test.true in
    let from = subst⁻¹ Placed c.exposed_from-from.ensures (from-placed _ _ p.of_claim.stands c.args.window.first p.sound_window.first_placed) in
    subst⁻¹ Placed c.month_row-record.ensures.first_value (later-placed _ _ start from)

pub loop-place-preserved : goal.loop-place-preserved
loop-place-preserved c =
    let room : 6 * c.loop-place.place + 6 ≤ length c.args.list.now = omega (arith, c.loop-place-test.true, c.requires.months_in_bounds) in
    record {
      within = omega arith;
      written = λ d b e n g.
          next-written _ _ _ _ _ d b e n g _ _ _ _ (c.loop-place.invariant.written d b e n g) c.loop-place-test.true _ c.start_in.ensures _ _ _
          c.month_row-record.ensures.result_value room c.put_row.ensures refl refl;
    }

pub returns : goal.returns
returns c =
    λ d s.
    let p = c.requires in
    let g = given c.args.claim c.args.window c.args.months _ _ p.sound_window p.months_for p.months_nonzero c.exposed_from-from.ensures c.exposed_to.ensures d s in
    all-written _ _ _ _ _ _ _ _ _ g _ _ _ _ (c.loop-place.invariant.written _ _ _ _ g) (omega (arith, c.loop-place.invariant.within, c.loop-place-test.false))
    (ap (λ (sp : Span). sp.months) (p.months_for.span_is d s) ∙ months-are _)
