-- A file by its block 0 and the blocks behind it: its dates, how many of its blocks are sound, and its records.
-- Assumes nothing.
use Prim.Native.Nat.{ℕ, suc, ◌+◌, ◌*◌, ◌/◌, ◌%◌, ◌<◌}
use mathlib.Core.Path.{◌≡◌, refl, sym, ap, ◌∙◌}
use mathlib.Core.Bool.{true, ◌&&◌, and-true, and-eq-true_iff}
use mathlib.Core.List.{List, ◌++◌}
use native.Mathlib.Omega.{arith}
use lib.ListN.{length, take, drop, get_or, length-append, length-drop, take-append-drop}
use lib.Seq.{take_at, drop_at, get_or-take}
use lib.Dec.{eqb}
use borrow.Author.Tests.{lt-ltb, eq-eqb, ne_eqb, eqb-true, ltb-true}
use Rattle.basics.specs.Pick.{pick}
use Rattle.basics.proofs.Tests.{by, tests}
use Rattle.calendar.proofs.Laws.{same-date}
use Rattle.claim_file.specs.Bytes.{byte_at, two_at, date_from}
use Rattle.claim_file.specs.Block.{block_sound}
use Rattle.claim_file.specs.Corrections.{records_of_block, records_of_blocks, file_records, sound_blocks, sound_all}
use Rattle.claim_file.proofs.Runs.{sound}

-- the dates in block 0 of a file
pub first-date : (bytes : List ℕ) (i : ℕ) → i + 3 < 512 → date_from (take 512 bytes) i ≡ date_from bytes i
unfolding date_from two_at byte_at
first-date bytes i h =
    let b : (j : ℕ) → j < 512 → get_or (take 512 bytes) j 0 ≡ get_or bytes j 0 = λ j l. get_or-take 512 bytes j 0 l in
    same-date _ _
    (λ d. b i (omega arith) d + 256 * b (i + 1) (omega arith) d) (b (i + 2) (omega arith)) (b (i + 3) (omega arith))

-- some blocks are all sound where the first is and the others are
pub sound-first : (due : ℕ) (bytes : List ℕ) (n : ℕ) → sound_blocks due bytes (suc n) ≡ suc n
    → (block_sound due (take 512 bytes) ≡ true) × (sound_blocks (suc due) (drop 512 bytes) n ≡ n)
unfolding sound_blocks
sound-first due bytes n =
    by (block_sound due (take 512 bytes))
    (λ t. pick t (suc (sound_blocks (suc due) (drop 512 bytes) n)) 0 ≡ suc n → (t ≡ true) × (sound_blocks (suc due) (drop 512 bytes) n ≡ n))
    (λ e h. (refl, omega arith)) (λ e h. absurd (omega arith))

next-test : (a b : ℕ) → eqb (suc a) (suc b) ≡ eqb a b
next-test a b =
    by (eqb a b) (λ t. eqb (suc a) (suc b) ≡ t) (λ e. eq-eqb (suc a) (suc b) (omega tests))
    (λ e. ne_eqb (suc a) (suc b) (λ (q : suc a ≡ suc b). omega tests))

-- a file put together of a sound block 0 and some bytes behind it
module _ (first rest : List ℕ) (s : block_sound 0 first ≡ true) where
  full : length first ≡ 512
  full = (sound 0 first s).length-so

  blocks-behind : length (first ++ rest) / 512 ≡ suc (length rest / 512)
  blocks-behind = let l = length-append first rest in let f = full in omega arith

  left_behind : length (first ++ rest) % 512 ≡ length rest % 512
  left_behind = let l = length-append first rest in let f = full in omega arith

  pub sound-behind : sound_blocks 0 (first ++ rest) (length (first ++ rest) / 512) ≡ suc (sound_blocks 1 rest (length rest / 512))
  unfolding sound_blocks
  sound-behind = rw (blocks-behind, take_at first rest 512 full, drop_at first rest 512 full, s)

  pub records-behind : file_records (first ++ rest) ≡ records_of_blocks rest 1 (length rest / 512)
  unfolding file_records records_of_blocks records_of_block
  records-behind = rw (blocks-behind, take_at first rest 512 full, drop_at first rest 512 full, (sound 0 first s).none_so refl)

  pub all-behind : sound_all (first ++ rest) ≡ (eqb (sound_blocks 1 rest (length rest / 512)) (length rest / 512) && eqb (length rest % 512) 0)
  unfolding sound_all
  all-behind =
      let l = length-append first rest in
      let f = full in
      let n = length rest / 512 in
      let m = sound_blocks 1 rest n in
      rw (sound-behind, blocks-behind, left_behind, lt-ltb 0 (length (first ++ rest)) (omega arith), next-test m n)
      (and-true (eqb m n && eqb (length rest % 512) 0))

-- a file of sound blocks, as facts
pub record SoundFile (bytes : List ℕ) : Type 0 where
  pub window_so : block_sound 0 (take 512 bytes) ≡ true
  pub blocks-so : sound_blocks 1 (drop 512 bytes) (length (drop 512 bytes) / 512) ≡ length (drop 512 bytes) / 512
  pub whole-so : length (drop 512 bytes) % 512 ≡ 0

pub sound-file : (bytes : List ℕ) → sound_all bytes ≡ true → SoundFile bytes
unfolding sound_all
sound-file bytes h =
    let t = simp and-eq-true_iff at h in
    let n = length (drop 512 bytes) / 512 in
    let l = length-drop 512 bytes in
    let w : length bytes % 512 ≡ 0 = eqb-true _ _ t.0.1 in
    let p : 0 < length bytes = ltb-true _ _ t.1 in
    let q : length bytes / 512 ≡ suc n = omega arith in
    let b = sound-first 0 bytes n (ap (sound_blocks 0 bytes) (sym q) ∙ eqb-true _ _ t.0.0 ∙ q) in
    record { window_so = b.0; blocks-so = b.1; whole-so = omega arith }

pub file-records : (bytes : List ℕ) → SoundFile bytes → file_records bytes ≡ records_of_blocks (drop 512 bytes) 1 (length (drop 512 bytes) / 512)
file-records bytes s =
    ap file_records (sym (take-append-drop 512 bytes)) ∙ records-behind (take 512 bytes) (drop 512 bytes) s.window_so
