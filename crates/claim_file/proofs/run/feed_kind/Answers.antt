-- `feed_kind` meets its contract. The outer loop's invariant: feeding all bytes to the run handed in is feeding the bytes left to the run so far. The inner
-- loop's: adding the block's claims to the study that it began with is adding those left to the study so far, whose sums are lent; and where these had room
-- for a whole block, they have room for what is left of it.
-- Assumes nothing.
use Prim.Native.Nat.{ℕ, suc, ◌+◌, ◌-◌, ◌<◌}
use mathlib.Core.Path.{◌≡◌, refl, sym, ap, ◌∙◌}
use mathlib.Core.Bool.{true}
use mathlib.Core.List.{List}
use native.Mathlib.Omega.{arith}
use lib.IntN.{ℤ}
use lib.ListN.{length, get_or, take, drop, length-take, length-drop}
use Rattle.std.proofs.Common.{get_or-take, get_or-drop}
use Rattle.std.specs.Prelude.{is_some}
use Rattle.basics.specs.Refused.{number_of, number_refused}
use Rattle.basics.specs.Tables.{all_at_most}
use Rattle.basics.proofs.Tests.{and_right}
use Rattle.basics.proofs.Refused.{numbered-from-1}
use Rattle.basics.proofs.Tables.{at-most-list}
use Rattle.study.specs.declared.Study.{Study}
use Rattle.study.specs.Answers.{Answer}
use Rattle.study.specs.Sums.{within}
use Rattle.study.specs.design.PreparedAdding.{lent_study}
use Rattle.study.specs.design.LentAdding.{room_for, added_to_lent}
use Rattle.study.proofs.SameAdding.{lent-kept, lent-refused, lent-taken, lent-room, lent-spare}
use Rattle.study.proofs.LentAdding.{spare-told}
use Rattle.claim_file.specs.Runs.{FileRun}
use Rattle.claim_file.specs.declared.LentRun.{LentRun}
use Rattle.claim_file.specs.Bytes.{byte_at}
use Rattle.claim_file.specs.Block.{block_claim, claim_count}
use Rattle.claim_file.specs.Run.{Adding, stops, claims_from, fed}
use Rattle.claim_file.specs.design.PreparedRuns.{adding_with}
use Rattle.claim_file.specs.design.LentRuns.{with_sums}
use Rattle.claim_file.specs.design.Private.{lent_stops, lent_goes_on}
use Rattle.claim_file.proofs.Stops.{stop-number, no-stop-number, passed}
use Rattle.claim_file.proofs.Runs.{Sound, sound, sound-due, part-is, rest-is, fed-refused, fed-none, stops-refused, claims-start, claims-on, claims-off, claims-end}
use Rattle.claim_file.proofs.LentRuns.{begun-claims-sound, fed-stops, fed-claims, stops-with, goes-on-with}
use Rattle.claim_file.proofs.run.feed_kind.Goals as goal
use Rattle.claim_file.proofs.run.feed_kind.Goals.{Else-is_some-2, After-add_to}

-- a block that was begun and not refused
module _ (c : Else-is_some-2) where
  abbrev run : FileRun
  run = with_sums c.file.run c.file.sums

  abbrev add : Adding
  add = adding_with c.args.kind c.args.table.now

  abbrev rest : List ℕ
  rest = drop c.file.at c.args.bytes.now

  abbrev part : List ℕ
  part = take (c.block_end-end.result - c.file.at) rest

  abbrev begun : FileRun
  begun = with_sums c.begin-run.result c.begin-run.new.sums

  free : begun.refused ≡ 0
  unfolding with_sums
  free = no-stop-number c.begin-run.result.stop (sym c.is_some-in-file.ensures ∙ c.if-is_some-2.false)

  sound-so : Sound c.begin-run.result.due part
  unfolding with_sums
  sound-so = sound _ _ (begun-claims-sound run add part begun c.begin-run.ensures free)

  place-low : (place : ℕ) → place < get_or part 2 0 → place < 15
  unfolding claim_count byte_at
  place-low place h = omega (arith, sound-so.count_so, h)

  part-byte : (k : ℕ) → k < 512 → get_or part k 0 < 256
  part-byte k h =
      let n = c.block_end-end.result - c.file.at in
      let far : k < n = omega (arith, sound-so.length-so, length-take n rest) in
      rw (get_or-take, get_or-drop) (omega (arith, c.type_inv.bytes (c.file.at + k)))

  due-low : c.begin-run.result.due < 65536
  unfolding byte_at
  due-low = sound-due _ _ sound-so (part-byte 0 (omega arith)) (part-byte 1 (omega arith))

  -- feeding the rest of the file is adding the claims left of the block, and then feeding what is behind it
  left-so : (taken : ℕ) (sums : List ℤ) (place : ℕ)
      → claims_from begun begun.study add part 0 (claim_count part)
      ≡ claims_from begun (lent_study c.begin-run.result.window.window taken sums) add part place (claim_count part - place)
      → fed run add rest ≡ fed (claims_from begun (lent_study c.begin-run.result.window.window taken sums) add part place (claim_count part - place)) add (drop 512 rest)
  unfolding with_sums
  left-so taken sums place e =
      let d = length-drop c.file.at c.args.bytes.now in
      fed-claims run add rest part (part-is _ _ _ c.block_end-end.ensures) (no-stop-number c.file.run.stop c.file.invariant.1) (omega (arith, c.file-test.true)) begun c.begin-run.ensures free
      ∙ ap (λ (r : FileRun). fed r add (drop 512 rest)) e

-- a claim that was handed to the sums: the study so far, the answer, and the sums afterwards
module _ (c : After-add_to) where
  abbrev so_far : Study
  so_far = lent_study c.begin-run.result.window.window c.loop-place.taken c.loop-place.sums

  abbrev after : List ℤ
  after = c.add_to.new.sums

  abbrev number : ℕ
  number = number_refused c.add_to.result

  value-so : number ≡ (added_to_lent c.has_still_room-room.result c.args.kind c.args.table.now c.claim_at-claim.result so_far).refused
  value-so = rw (c.rate_table-table.ensures.kind_value, c.rate_table-table.ensures.numbers_value) at c.add_to.ensures.value

  sums-so : after ≡ (added_to_lent c.has_still_room-room.result c.args.kind c.args.table.now c.claim_at-claim.result so_far).study.sums
  sums-so = rw (c.rate_table-table.ensures.kind_value, c.rate_table-table.ensures.numbers_value) at c.add_to.ensures.sums_after

  -- what adding the block's claim answers
  abbrev added : Answer
  added = adding_with c.args.kind c.args.table.now so_far (block_claim (take (c.block_end-end.result - c.file.at) (drop c.file.at c.args.bytes.now)) c.loop-place.place)

  -- the sums are looked at with each claim only where the block's claims could take one past its bound
  looked-so : c.has_still_room-room.result ≡ within c.loop-place.sums
  looked-so = spare-told (15 - c.loop-place.place) c.loop-place.sums _ _ c.loop-place.invariant.2 c.has_still_room-room.ensures

  room-so : number ≡ 0 → c.loop-place.taken < 500000
  room-so h = lent-room _ so_far c.claim_at-claim.result _ _ looked-so _ after value-so sums-so h

  kept-so : (number ≡ 0 → ⊥) → after ≡ c.loop-place.sums
  kept-so h = lent-kept _ so_far c.claim_at-claim.result _ _ looked-so _ after value-so sums-so h

  spare-so : c.loop-place.place < 15 → c.has_spare-spare.result ≡ true → room_for (15 - (c.loop-place.place + 1)) after ≡ true
  spare-so low h =
      let left : 15 - c.loop-place.place ≡ suc (15 - (c.loop-place.place + 1)) = omega (arith, low) in
      let table-small : all_at_most 4294967295 c.args.table.now ≡ true = at-most-list 4294967295 c.args.table.now (λ k _. omega (arith, c.type_inv.table k)) in
      lent-spare _ so_far c.claim_at-claim.result _ _ looked-so _ after value-so sums-so
      (15 - (c.loop-place.place + 1)) (omega arith) table-small (rw left at (c.loop-place.invariant.2 h))

  taken-so : number ≡ 0 → record { refused = 0; study = lent_study so_far.window (so_far.taken + 1) after } ≡ added
  taken-so h =
      lent-taken _ so_far c.claim_at-claim.result _ _ looked-so _ after value-so sums-so h
      ∙ ap (adding_with c.args.kind c.args.table.now so_far) c.claim_at-claim.ensures

  refused-so : (number ≡ 0 → ⊥) → record { refused = number; study = so_far } ≡ added
  refused-so h =
      lent-refused _ so_far c.claim_at-claim.result _ _ looked-so _ after value-so sums-so h
      ∙ ap (adding_with c.args.kind c.args.table.now so_far) c.claim_at-claim.ensures

pub returns-then-is_some : goal.returns-then-is_some
unfolding with_sums
returns-then-is_some c =
    let stopped-so = stop-number c.args.from.stop (sym c.is_some.ensures ∙ c.if-is_some.true) in
    sym (fed-refused (with_sums c.args.from c.args.sums.now) (adding_with c.args.kind c.args.table.now) c.args.bytes.now stopped-so)

pub file-init : goal.file-init
file-init c = (omega arith, sym c.is_some.ensures ∙ c.if-is_some.false, refl)

pub begin-run-requires : goal.begin-run-requires
begin-run-requires c = c.file.invariant.1

pub returns-then-is_some-2 : goal.returns-then-is_some-2
unfolding with_sums
returns-then-is_some-2 c =
    let rest : List ℕ = drop c.file.at c.args.bytes.now in
    let some_left : 0 < length rest = let d = length-drop c.file.at c.args.bytes.now in omega (arith, c.file-test.true) in
    sym
    (c.file.invariant.2
    ∙ fed-stops (with_sums c.file.run c.file.sums) (adding_with c.args.kind c.args.table.now) rest _ (part-is _ _ _ c.block_end-end.ensures) (no-stop-number c.file.run.stop c.file.invariant.1) some_left
    (with_sums c.begin-run.result c.begin-run.new.sums) c.begin-run.ensures (stop-number c.begin-run.result.stop (sym c.is_some-in-file.ensures ∙ c.if-is_some-2.true)))

pub bounds-part-2 : goal.bounds-part-2
bounds-part-2 c = let s = (sound-so (goal.at.bounds-part-2 c).Else-is_some-2).length-so in omega arith

pub loop-place-init : goal.loop-place-init
loop-place-init c = (refl, omega arith, (λ h. and_right _ _ (sym c.has_spare-spare.ensures ∙ h)), claims-start _ _ _ _ _)

pub claim_at-claim-requires : goal.claim_at-claim-requires
claim_at-claim-requires c =
    let b = (goal.at.claim_at-claim-requires c).Else-is_some-2 in
    record { bytes_len = (sound-so b).length-so; place_bound = place-low b c.loop-place.place (omega arith) }

pub overflow_add-place : goal.overflow_add-place
overflow_add-place c = omega (arith, place-low (goal.at.overflow_add-place c).Else-is_some-2 c.loop-place.place (omega arith))

pub overflow_add-taken : goal.overflow_add-taken
overflow_add-taken c = omega (arith, room-so (goal.at.overflow_add-taken c).After-add_to (passed c.add_to.result c.in_default.not-Err))

pub loop-place-preserved : goal.loop-place-preserved
unfolding claim_count byte_at
loop-place-preserved c =
    let b = (goal.at.loop-place-preserved c).Else-is_some-2 in
    let m = (goal.at.loop-place-preserved c).After-add_to in (
      c.loop-place.invariant.0,
      omega arith,
      spare-so m (place-low b c.loop-place.place (omega arith)),
      c.loop-place.invariant.3 ∙ claims-on _ (so_far m) _ _ _ _ (omega arith) _ (taken-so m (passed c.add_to.result c.in_default.not-Err)) refl,
    )

pub returns-in-Err : goal.returns-in-Err
unfolding with_sums claim_count byte_at
returns-in-Err c =
    let b = (goal.at.returns-in-Err c).Else-is_some-2 in
    let m = (goal.at.returns-in-Err c).After-add_to in
    let l = c.loop-place in
    let refusal = c.in-Err.refusal in
    let n = number_of refusal in
    let is-so : number m ≡ n = ap number_refused c.in-Err.is in
    let h : number m ≡ 0 → ⊥ = λ e. absurd (omega (arith, e, is-so, numbered-from-1 refusal)) in
    ap (λ (r : LentRun). with_sums r (after m)) (c.stopped-run.ensures ∙ ap (λ (r : LentRun). lent_stops r l.taken refusal (l.place + 1)) l.invariant.0)
    ∙ stops-with c.begin-run.result c.begin-run.new.sums (after m) l.taken refusal (l.place + 1)
    ∙ ap (λ (x : List ℤ). stops (begun b) (lent_study c.begin-run.result.window.window l.taken x) n (l.place + 1)) (kept-so m h)
    ∙ ap (λ (k : ℕ). stops (begun b) (lent_study c.begin-run.result.window.window l.taken l.sums) k (l.place + 1)) (sym is-so)
    ∙ sym
    (c.file.invariant.2
    ∙ left-so b l.taken l.sums l.place l.invariant.3
    ∙ ap (λ (r : FileRun). fed r (add b) (drop 512 (rest b))) (claims-off _ (so_far m) _ _ _ _ (omega arith) _ (refused-so m h) h)
    ∙ fed-refused _ _ _ (stops-refused _ _ _ _ h))

pub continued-run-requires : goal.continued-run-requires
continued-run-requires c =
    rw c.loop-place.invariant.0 (due-low (goal.at.continued-run-requires c).Else-is_some-2)

pub file-smaller : goal.file-smaller
file-smaller c = omega (arith, c.block_end-end.ensures, c.file-test.true)

pub file-preserved : goal.file-preserved
unfolding with_sums claim_count byte_at lent_goes_on
file-preserved c =
    let b = (goal.at.file-preserved c).Else-is_some-2 in
    let l = c.loop-place in
    let e = c.block_end-end.ensures in
    let on : c.continued-run.result ≡ lent_goes_on c.begin-run.result l.taken = c.continued-run.ensures ∙ ap (λ (r : LentRun). lent_goes_on r l.taken) l.invariant.0 in (
      omega (arith, e),
      ap (λ (r : LentRun). is_some r.stop) on,
      c.file.invariant.2
          ∙ left-so b l.taken l.sums l.place l.invariant.3
          ∙ ap (λ (r : FileRun). fed r (add b) (drop 512 (rest b)))
          (claims-end _ (lent_study c.begin-run.result.window.window l.taken l.sums) _ _ _ _ (omega arith)
          ∙ sym (ap (λ (r : LentRun). with_sums r l.sums) on ∙ goes-on-with c.begin-run.result c.begin-run.new.sums l.sums l.taken))
          ∙ ap (fed (with_sums c.continued-run.result l.sums) (add b)) (rest-is c.args.bytes.now c.file.at c.block_end-end.result c.file.invariant.0 e),
    )

pub returns-after-file : goal.returns-after-file
returns-after-file c =
    let d = length-drop c.file.at c.args.bytes.now in
    sym (c.file.invariant.2 ∙ fed-none (with_sums c.file.run c.file.sums) (adding_with c.args.kind c.args.table.now) (drop c.file.at c.args.bytes.now) (omega arith))
