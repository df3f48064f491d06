-- `add_kept` meets its contract. Both loops' invariant: adding all records kept to the study handed in is adding those kept of the records left to the
-- study so far, whose sums are lent. The inner loop's also: where these had room for a whole block, they have room for what is left of it.
-- Assumes nothing.
use native.Mathlib.Omega.{arith}
use Prim.Native.Nat.{ℕ, suc, ◌+◌, ◌-◌, ◌*◌, ◌/◌, ◌<◌}
use mathlib.Core.Path.{◌≡◌, refl, sym, ap, subst, ◌∙◌}
use mathlib.Core.Bool.{true}
use mathlib.Core.List.{List, ◌∷◌}
use lib.IntN.{ℤ}
use lib.ListN.{length, take, drop, get_or}
use Rattle.basics.specs.Refused.{number_of, number_refused}
use Rattle.basics.specs.Tables.{all_at_most}
use Rattle.basics.proofs.Tests.{and_right}
use Rattle.basics.proofs.Refused.{numbered-from-1}
use Rattle.basics.proofs.Tables.{at-most-list}
use Rattle.study.specs.declared.Study.{Study}
use Rattle.study.specs.Answers.{Answer}
use Rattle.study.specs.Sums.{within}
use Rattle.study.specs.design.PreparedAdding.{lent_study}
use Rattle.study.specs.design.LentAdding.{room_for, added_to_lent}
use Rattle.study.proofs.SameAdding.{lent-kept, lent-refused, lent-taken, lent-room, lent-spare}
use Rattle.study.proofs.LentAdding.{spare-told}
use Rattle.claim_file.specs.Bytes.{byte_at}
use Rattle.claim_file.specs.Block.{claim_count, block_claim, block_sound}
use Rattle.claim_file.specs.Run.{Adding}
use Rattle.claim_file.specs.Corrections.{PlacedClaim, file_records, sound_all, has_number}
use Rattle.claim_file.specs.design.PreparedRuns.{adding_with}
use Rattle.claim_file.proofs.Stops.{passed}
use Rattle.claim_file.proofs.Runs.{Sound, sound}
use Rattle.claim_file.proofs.Slots.{block_of, block-byte}
use Rattle.claim_file.proofs.CorrectedRuns.{Left, go, left-first, left-rest, left-none, left_step, left-stop, later_records, block_left, placed, all-records, into_block, next_place, block-done, file-done, block-cut, block-due, block-sound, within_all, marked-later, none-added, one-added, one-refused}
use Rattle.claim_file.proofs.corrections.add_kept.Goals as goal
use Rattle.claim_file.proofs.corrections.add_kept.Goals.{In-loop-place, After-is_marked, After-add_to}

-- a block's bytes, as they are cut from the file, and their claim count
abbrev cut : List ℕ → ℕ → List ℕ
cut file block = take (512 * block + 512 - 512 * block) (drop (512 * block) file)

abbrev count_of : List ℕ → ℕ → ℕ
count_of file block = get_or (cut file block) 2 0

-- the records left in a block from a place on, and those behind it
abbrev left_in : List ℕ → ℕ → ℕ → List PlacedClaim
left_in file block place = block_left file (cut file block) block place (count_of file block)

-- a block of a file of sound blocks
module _ (file : List ℕ) (block : ℕ) (within : block < length file / 512) where
  cut-begun : later_records file block ≡ left_in file block 0
  unfolding byte_at
  cut-begun =
      let e = block-cut file block in
      into_block file block (count_of file block) within (ap (λ (bs : List ℕ). get_or bs 2 0) e ∙ block-byte file block 2 (512 * block + 2) (omega arith) refl)
      ∙ ap (λ (bs : List ℕ). block_left file bs block 0 (count_of file block)) (sym e)

  module _ (all_so : sound_all file ≡ true) where
    whole-so : block_sound block (block_of file block) ≡ true
    whole-so = block-sound file all_so block within

    cut-sound : Sound block (cut file block)
    cut-sound = subst (Sound block) (sym (block-cut file block)) (sound block _ whole-so)

    place-low : (place : ℕ) → place < count_of file block → place < 15
    unfolding claim_count byte_at
    place-low place h = omega (arith, cut-sound.count_so, h)

    number-low : ((k : ℕ) → get_or file k 0 < 256) → block < 65536
    unfolding byte_at
    number-low byte = block-due file block whole-so (byte (512 * block)) (byte (512 * block + 1))

-- a record of a block: it is the first of those left
module _ (c : In-loop-place) where
  abbrev file : List ℕ
  file = c.args.file.now

  abbrev add : Adding
  add = adding_with c.args.kind c.args.table.now

  abbrev so_far : Study
  so_far = lent_study c.args.study.window c.loop-place.taken c.loop-place.sums

  abbrev here : PlacedClaim
  here = placed (cut file c.loop-block.block) c.loop-block.block c.loop-place.place

  abbrev behind : List PlacedClaim
  behind = left_in file c.loop-block.block (c.loop-place.place + 1)

  left-here : Left add (file_records file) (go c.args.study) (go so_far) c.loop-place.next (file_records file) (here ∷ behind)
  left-here =
      left-rest _ _ _ _ _ _ _ _ (next_place file (cut file c.loop-block.block) c.loop-block.block c.loop-place.place (count_of file c.loop-block.block) (omega arith))
      c.loop-place.invariant.4

  low : c.loop-place.place < 15
  low = place-low file c.loop-block.block (omega arith) c.requires.file_value c.loop-place.place (omega arith)

  index-so : c.loop-place.next < 60000
  index-so =
      let h : c.loop-place.next < length (file_records file) = within_all _ _ _ _ left-here.behind in
      omega (arith, h, c.requires.file_len_bound)

-- whether it is struck
marked-so : (c : After-is_marked)
    → c.is_marked.result ≡ has_number (block_claim (cut c.args.file.now c.loop-block.block) c.loop-place.place).number (left_in c.args.file.now c.loop-block.block (c.loop-place.place + 1))
marked-so c =
    let l = left-here (goal.at.After-is_marked c).In-loop-place in
    c.is_marked.ensures ∙ marked-later _ _ _ _ l.behind _ c.requires.marks_struck

-- a claim that was handed to the sums: the answer, and the sums afterwards
module _ (c : After-add_to) where
  abbrev after : List ℤ
  after = c.add_to.new.sums

  abbrev number : ℕ
  number = number_refused c.add_to.result

  -- the study so far, the record, and what adding its claim answers
  abbrev reached : Study
  reached = lent_study c.args.study.window c.loop-place.taken c.loop-place.sums

  abbrev handed : PlacedClaim
  handed = placed (cut c.args.file.now c.loop-block.block) c.loop-block.block c.loop-place.place

  abbrev answer : Answer
  answer = adding_with c.args.kind c.args.table.now reached handed.claim

  value-so : number ≡ (added_to_lent c.has_still_room-room.result c.args.kind c.args.table.now c.claim_at-claim.result reached).refused
  value-so = rw (c.rate_table-table.ensures.kind_value, c.rate_table-table.ensures.numbers_value, c.window_months-window.ensures) at c.add_to.ensures.value

  sums-so : after ≡ (added_to_lent c.has_still_room-room.result c.args.kind c.args.table.now c.claim_at-claim.result reached).study.sums
  sums-so = rw (c.rate_table-table.ensures.kind_value, c.rate_table-table.ensures.numbers_value, c.window_months-window.ensures) at c.add_to.ensures.sums_after

  -- the block's claims added so far
  abbrev count : ℕ
  count = c.loop-place.taken - c.loop-block.taken

  looked-so : c.has_still_room-room.result ≡ within c.loop-place.sums
  looked-so = spare-told (15 - count) c.loop-place.sums _ _ c.loop-place.invariant.3 c.has_still_room-room.ensures

  room-so : number ≡ 0 → c.loop-place.taken < 500000
  room-so h = lent-room _ reached c.claim_at-claim.result _ _ looked-so _ after value-so sums-so h

  kept-so : (number ≡ 0 → ⊥) → after ≡ c.loop-place.sums
  kept-so h = lent-kept _ reached c.claim_at-claim.result _ _ looked-so _ after value-so sums-so h

  spare-so : count < 15 → c.has_spare-spare.result ≡ true → room_for (15 - (count + 1)) after ≡ true
  spare-so few h =
      let left : 15 - count ≡ suc (15 - (count + 1)) = omega (arith, few) in
      let table-small : all_at_most 4294967295 c.args.table.now ≡ true = at-most-list 4294967295 c.args.table.now (λ k _. omega (arith, c.type_inv.table k)) in
      lent-spare _ reached c.claim_at-claim.result _ _ looked-so _ after value-so sums-so
      (15 - (count + 1)) (omega arith) table-small (rw left at (c.loop-place.invariant.3 h))

  taken-so : number ≡ 0 → record { refused = 0; study = lent_study reached.window (reached.taken + 1) after } ≡ answer
  taken-so h =
      lent-taken _ reached c.claim_at-claim.result _ _ looked-so _ after value-so sums-so h
      ∙ ap (adding_with c.args.kind c.args.table.now reached) c.claim_at-claim.ensures

  refused-so : (number ≡ 0 → ⊥) → record { refused = number; study = reached } ≡ answer
  refused-so h =
      lent-refused _ reached c.claim_at-claim.result _ _ looked-so _ after value-so sums-so h
      ∙ ap (adding_with c.args.kind c.args.table.now reached) c.claim_at-claim.ensures

pub loop-block-init : goal.loop-block-init
loop-block-init c =
    let file = c.args.file.now in
    (omega arith, left-rest _ _ _ _ _ _ _ _ (all-records file c.requires.file_value) (left-first _ (file_records file) _ 0 (file_records file) refl refl))

pub loop-place-init : goal.loop-place-init
loop-place-init c =
    let none : 15 - (c.loop-block.taken - c.loop-block.taken) ≡ 15 = omega arith in (
      omega arith,
      omega arith,
      omega arith,
      (λ h. rw none (and_right _ _ (sym c.has_spare-spare.ensures ∙ h))),
      left-rest _ _ _ _ _ _ _ _ (cut-begun c.args.file.now c.loop-block.block (omega arith)) c.loop-block.invariant.1,
    )

pub overflow_add-next : goal.overflow_add-next
overflow_add-next c = omega (arith, index-so c)

pub is_marked-requires : goal.is_marked-requires
is_marked-requires c = omega (arith, index-so (goal.at.is_marked-requires c).In-loop-place)

pub loop-place-preserved-then-is_marked : goal.loop-place-preserved-then-is_marked
loop-place-preserved-then-is_marked c =
    let p = (goal.at.loop-place-preserved-then-is_marked c).In-loop-place in
    let m = (goal.at.loop-place-preserved-then-is_marked c).After-is_marked in
    let i = c.loop-place.invariant in (
      omega arith,
      i.1,
      omega arith,
      i.3,
      left_step _ _ _ _ _ _ _ _ (left-here p) _ (marked-so m) _ (none-added (add p) (here p) _ (so_far p) c.if-is_marked.true) refl,
    )

pub claim_at-claim-requires : goal.claim_at-claim-requires
claim_at-claim-requires c =
    let p = (goal.at.claim_at-claim-requires c).In-loop-place in
    record { bytes_len = (cut-sound c.args.file.now c.loop-block.block (omega arith) c.requires.file_value).length-so; place_bound = low p }

pub overflow_add-place : goal.overflow_add-place
overflow_add-place c = omega (arith, low (goal.at.overflow_add-place c).In-loop-place)

pub overflow_add-taken : goal.overflow_add-taken
overflow_add-taken c = omega (arith, room-so (goal.at.overflow_add-taken c).After-add_to (passed c.add_to.result c.in_default.not-Err))

pub loop-place-preserved : goal.loop-place-preserved
loop-place-preserved c =
    let p = (goal.at.loop-place-preserved c).In-loop-place in
    let m = (goal.at.loop-place-preserved c).After-add_to in
    let i = c.loop-place.invariant in
    let n : number m ≡ 0 = passed c.add_to.result c.in_default.not-Err in
    let few : count m < 15 = omega (arith, low p) in
    let more : count m + 1 ≡ c.loop-place.taken + 1 - c.loop-block.taken = omega arith in (
      omega arith,
      omega arith,
      omega arith,
      (λ h. subst (λ (k : ℕ). room_for (15 - k) (after m) ≡ true) more (spare-so m few h)),
      left_step _ _ _ _ _ _ _ _ (left-here p) _ (marked-so (goal.at.loop-place-preserved c).After-is_marked) _
          (one-added (add p) (here p) _ (so_far p) c.if-is_marked.false _ (taken-so m n) refl) refl,
    )

pub returns-in-Err : goal.returns-in-Err
returns-in-Err c =
    let p = (goal.at.returns-in-Err c).In-loop-place in
    let m = (goal.at.returns-in-Err c).After-add_to in
    let refusal = c.in-Err.refusal in
    let is-so : number m ≡ number_of refusal = ap number_refused c.in-Err.is in
    let h : number m ≡ 0 → ⊥ = λ e. absurd (omega (arith, e, is-so, numbered-from-1 refusal)) in
    c.refused.ensures
    ∙ ap (λ (s : Study). record { study = s; refused = number_of refusal; block = c.loop-block.block; place = c.loop-place.place + 1 }) c.with_sums.ensures
    ∙ ap (λ (x : List ℤ). record { study = lent_study c.args.study.window c.loop-place.taken x; refused = number_of refusal; block = c.loop-block.block; place = c.loop-place.place + 1 })
    (kept-so m h)
    ∙ ap (λ (n : ℕ). record { study = reached m; refused = n; block = c.loop-block.block; place = c.loop-place.place + 1 }) (sym is-so)
    ∙ left-stop _ _ _ _ _ _ _ _ (left-here p) _ (marked-so (goal.at.returns-in-Err c).After-is_marked) _
    (one-refused (add p) (here p) _ (so_far p) c.if-is_marked.false _ (refused-so m h) h) h

pub overflow_add-block : goal.overflow_add-block
overflow_add-block c =
    let byte : (k : ℕ) → get_or c.args.file.now k 0 < 256 = λ k. omega (arith, c.type_inv.file k) in
    omega (arith, number-low c.args.file.now c.loop-block.block (omega arith) c.requires.file_value byte)

pub loop-block-preserved : goal.loop-block-preserved
loop-block-preserved c =
    let file = c.args.file.now in
    let byte : (k : ℕ) → get_or c.args.file.now k 0 < 256 = λ k. omega (arith, c.type_inv.file k) in
    let b : ℕ = c.loop-block.block in
    let l = c.loop-place in (
      omega (arith, number-low file b (omega arith) c.requires.file_value byte),
      left-rest _ _ _ _ _ _ _ _ (block-done file (cut file b) b l.place (count_of file b) (omega arith)) l.invariant.4,
    )

pub returns : goal.returns
returns c =
    let file = c.args.file.now in
    ap go c.with_sums-2.ensures
    ∙ left-none _ _ _ _ c.loop-block.next _ (left-rest _ _ _ _ _ _ _ _ (file-done file c.loop-block.block (omega arith)) c.loop-block.invariant.1)
