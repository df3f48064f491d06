-- The records of a file by its slots: those of sound blocks are those in the slots, in order, and how the claim numbers from a slot on go.
-- Assumes nothing.
use Prim.Native.Nat.{ℕ, zero, suc, ◌+◌, ◌-◌, ◌*◌, ◌/◌, ◌%◌, ◌≤◌, ◌<◌}
use mathlib.Core.Path.{◌≡◌, refl, sym, ap, subst, ◌∙◌}
use mathlib.Core.Bool.{true, and-eq-true_iff}
use mathlib.Core.List.{List, [], ◌∷◌, ◌++◌}
use native.Mathlib.Omega.{arith}
use lib.ListN.{length, get_or, take, drop, length-drop, length-append}
use lib.Seq.{get_or-take, get_or-drop, drop-drop, drop-cons}
use lib.Dec.{ltb}
use borrow.Author.Tests.{eqb-true, lt-ltb, le-ltb}
use Rattle.basics.specs.Pick.{pick}
use Rattle.basics.proofs.Tests.{by, tests}
use Rattle.claim_file.specs.Bytes.{byte_at, two_at, four_at}
use Rattle.claim_file.specs.Record.{claim_from}
use Rattle.claim_file.specs.Block.{claim_count, block_claim, block_sound}
use Rattle.claim_file.specs.Corrections.{PlacedClaim, records_of_block, records_of_blocks, file_records, sound_blocks, sound_all}
use Rattle.claim_file.specs.design.Marks.{numbers_of, slot_filled, slot_numbers, numbers_from, NextRecord}
use Rattle.claim_file.proofs.Runs.{sound}

-- the count of a slot's block
abbrev count_at : List ℕ → ℕ → ℕ
count_at bytes s = byte_at bytes (s / 16 * 512 + 2)

module _ (bytes : List ℕ) where
  filled-step : (s n : ℕ) → s % 16 < count_at bytes s → slot_numbers bytes s (suc n) ≡ four_at bytes (32 * s + 16) ∷ slot_numbers bytes (suc s) n
  unfolding slot_numbers slot_filled
  filled-step s n h = rw (lt-ltb _ _ h)

  empty-step : (s n : ℕ) → count_at bytes s ≤ s % 16 → slot_numbers bytes s (suc n) ≡ slot_numbers bytes (suc s) n
  unfolding slot_numbers slot_filled
  empty-step s n h = rw (le-ltb _ _ h)

  -- empty slots have no numbers
  skip : (k n s : ℕ) → ((j : ℕ) → j < k → count_at bytes (s + j) ≤ (s + j) % 16) → slot_numbers bytes s n ≡ slot_numbers bytes (s + k) (n - k)
  unfolding slot_numbers
  skip zero n s f = let e : s ≡ s + 0 = omega arith in let g : n ≡ n - 0 = omega arith in λ i. slot_numbers bytes (e i) (g i)
  skip (suc k) zero s f = let e : 0 ≡ 0 - suc k = omega arith in ap (slot_numbers bytes (s + suc k)) e
  skip (suc k) (suc n) s f =
      let here : s + 0 ≡ s = omega arith in
      let e : suc s + k ≡ s + suc k = omega arith in
      let g : n - k ≡ suc n - suc k = omega arith in
      empty-step s n (subst (λ (m : ℕ). count_at bytes m ≤ m % 16) here (f 0 (omega arith)))
      ∙ skip k n (suc s) (λ j h. let next : s + suc j ≡ suc s + j = omega arith in subst (λ (m : ℕ). count_at bytes m ≤ m % 16) next (f (suc j) (omega arith)))
      ∙ (λ i. slot_numbers bytes (e i) (g i))

  -- a slot that is past its block's records leads to the next block
  pub next-block : (s : ℕ) → count_at bytes s ≤ s % 16 → numbers_from bytes s ≡ numbers_from bytes (s / 16 * 16 + 16)
  unfolding numbers_from
  next-block s h =
      let k = 16 - s % 16 in
      let e : s + k ≡ s / 16 * 16 + 16 = omega arith in
      let g : length bytes / 32 - s - k ≡ length bytes / 32 - (s / 16 * 16 + 16) = omega arith in
      skip k (length bytes / 32 - s) s (λ j l. let b : (s + j) / 16 ≡ s / 16 = omega arith in rw b (omega arith))
      ∙ (λ i. slot_numbers bytes (e i) (g i))

  -- a slot with a record
  pub record-here : (s : ℕ) → s < length bytes / 32 → s % 16 < count_at bytes s
      → numbers_from bytes s ≡ four_at bytes (32 * s + 16) ∷ numbers_from bytes (s + 1)
  unfolding numbers_from
  record-here s l h =
      let rest = length bytes / 32 - (s + 1) in
      let e : length bytes / 32 - s ≡ suc rest = omega arith in
      let g : suc s ≡ s + 1 = omega arith in
      ap (slot_numbers bytes s) e ∙ filled-step s rest h ∙ ap (λ (n : ℕ). four_at bytes (32 * s + 16) ∷ slot_numbers bytes n rest) g

  -- where numbers are left the slot lies in the file
  pub slot-within : (s : ℕ) → 0 < length (numbers_from bytes s) → s < length bytes / 32
  unfolding numbers_from slot_numbers
  slot-within s h =
      by (ltb s (length bytes / 32)) (λ _. s < length bytes / 32)
      (λ t. omega tests)
      (λ t. let e : length bytes / 32 - s ≡ 0 = omega tests in absurd (omega (arith, ap (λ (n : ℕ). length (slot_numbers bytes s n)) e)))

-- a block of a file: its count, and the numbers of its records from place k on
abbrev pub block_of : List ℕ → ℕ → List ℕ
block_of bytes b = take 512 (drop (512 * b) bytes)

module _ (bytes : List ℕ) (b : ℕ) where
  pub block-byte : (i j : ℕ) → i < 512 → j ≡ 512 * b + i → byte_at (block_of bytes b) i ≡ byte_at bytes j
  unfolding byte_at
  block-byte i j h e =
      get_or-take 512 (drop (512 * b) bytes) i 0 h ∙ get_or-drop (512 * b) bytes i 0 ∙ ap (λ (n : ℕ). get_or bytes n 0) (sym e)

  block-count : claim_count (block_of bytes b) ≡ byte_at bytes (512 * b + 2)
  unfolding claim_count
  block-count = block-byte 2 (512 * b + 2) (omega arith) refl

  block-number : (k : ℕ) → k < 15 → (block_claim (block_of bytes b) k).number ≡ four_at bytes (32 * (16 * b + k) + 16)
  unfolding block_claim claim_from four_at two_at
  block-number k h =
      let i = 16 + 32 * k in
      let j = 32 * (16 * b + k) + 16 in
      let first = block-byte i j (omega arith) (omega arith) in
      let second = block-byte (i + 1) (j + 1) (omega arith) (omega arith) in
      let third = block-byte (i + 2) (j + 2) (omega arith) (omega arith) in
      let fourth = block-byte (i + 2 + 1) (j + 2 + 1) (omega arith) (omega arith) in
      λ t. first t + 256 * second t + 65536 * (third t + 256 * fourth t)

  -- slot k of the block, from 0 to 15, by the block's count
  slot-count : (k : ℕ) → k < 16 → count_at bytes (16 * b + k) ≡ byte_at bytes (512 * b + 2)
  slot-count k h = let e : (16 * b + k) / 16 * 512 + 2 ≡ 512 * b + 2 = omega arith in ap (byte_at bytes) e

  block-slots : (k n m : ℕ) → k + n ≡ byte_at bytes (512 * b + 2) → k + n ≤ 15
      → slot_numbers bytes (16 * b + k) (n + (16 - (k + n) + m)) ≡ numbers_of (records_of_block (block_of bytes b) b k n) ++ slot_numbers bytes (16 * b + 16) m
  unfolding slot_numbers numbers_of records_of_block
  block-slots k zero m e l =
      let s : 16 * b + k + (16 - k) ≡ 16 * b + 16 = omega arith in
      let r : 0 + (16 - (k + 0) + m) - (16 - k) ≡ m = omega arith in
      skip bytes (16 - k) (0 + (16 - (k + 0) + m)) (16 * b + k)
      (λ j h.
      let q : 16 * b + k + j ≡ 16 * b + (k + j) = omega arith in
      rw q (omega (arith, slot-count (k + j) (omega arith))))
      ∙ (λ t. slot_numbers bytes (s t) (r t))
  block-slots k (suc n) m e l =
      let rest = n + (16 - (suc k + n) + m) in
      let r : suc n + (16 - (k + suc n) + m) ≡ suc rest = omega arith in
      let s : suc (16 * b + k) ≡ 16 * b + suc k = omega arith in
      ap (slot_numbers bytes (16 * b + k)) r
      ∙ filled-step bytes (16 * b + k) rest (omega (arith, slot-count k (omega arith)))
      ∙ ap (λ (x : ℕ). x ∷ slot_numbers bytes (suc (16 * b + k)) rest) (sym (block-number k (omega arith)))
      ∙ ap (λ (x : ℕ). (block_claim (block_of bytes b) k).number ∷ slot_numbers bytes x rest) s
      ∙ ap (λ (xs : List ℕ). (block_claim (block_of bytes b) k).number ∷ xs) (block-slots (suc k) n m (omega arith) (omega arith))

-- records one after the other
numbers-append : (rs ts : List PlacedClaim) → numbers_of (rs ++ ts) ≡ numbers_of rs ++ numbers_of ts
unfolding numbers_of
numbers-append [] ts = refl
numbers-append (r ∷ rs) ts = ap (λ (xs : List ℕ). r.claim.number ∷ xs) (numbers-append rs ts)

pub numbers-length : (rs : List PlacedClaim) → length (numbers_of rs) ≡ length rs
unfolding numbers_of
numbers-length [] = refl
numbers-length (r ∷ rs) = ap suc (numbers-length rs)

block-length : (bytes : List ℕ) (b k n : ℕ) → length (records_of_block bytes b k n) ≡ n
unfolding records_of_block
block-length bytes b k zero = refl
block-length bytes b k (suc n) = ap suc (block-length bytes b (suc k) n)

-- the records of n blocks from block b on: first the block's own, whose number is the count
abbrev pub records_from : List ℕ → ℕ → ℕ → List PlacedClaim
records_from bytes b n = records_of_blocks (drop (512 * b) bytes) b n

abbrev pub own_records : List ℕ → ℕ → List PlacedClaim
own_records bytes b = records_of_block (block_of bytes b) b 0 (byte_at bytes (512 * b + 2))

pub from_block : (bytes : List ℕ) (b n : ℕ) → records_from bytes b (suc n) ≡ own_records bytes b ++ records_from bytes (suc b) n
unfolding records_of_blocks
from_block bytes b n =
    let e : 512 * b + 512 ≡ 512 * suc b = omega arith in
    let rest = drop-drop 512 (512 * b) bytes ∙ ap (λ (m : ℕ). drop m bytes) e in
    λ t. records_of_block (block_of bytes b) b 0 (block-count bytes b t) ++ records_of_blocks (rest t) (suc b) n

pub count-on : (bytes : List ℕ) (b n : ℕ) → b < n
    → length (records_from bytes b (n - b)) ≡ byte_at bytes (512 * b + 2) + length (records_from bytes (b + 1) (n - (b + 1)))
count-on bytes b n h =
    let left = n - (b + 1) in
    let e : n - b ≡ suc left = omega arith in
    let g : suc b ≡ b + 1 = omega arith in
    ap (λ (m : ℕ). length (records_from bytes b m)) e
    ∙ ap length (from_block bytes b left)
    ∙ length-append (own_records bytes b) (records_from bytes (suc b) left)
    ∙ ap (λ (m : ℕ). m + length (records_from bytes (suc b) left)) (block-length (block_of bytes b) b 0 (byte_at bytes (512 * b + 2)))
    ∙ ap (λ (m : ℕ). byte_at bytes (512 * b + 2) + length (records_from bytes m left)) g

pub count-first : (bytes : List ℕ) → length (records_from bytes 0 (length bytes / 512 - 0)) ≡ length (file_records bytes)
unfolding file_records
count-first bytes = let e : length bytes / 512 - 0 ≡ length bytes / 512 = omega arith in ap (λ (n : ℕ). length (records_from bytes 0 n)) e

pub count-last : (bytes : List ℕ) (b n : ℕ) → n ≤ b → length (records_from bytes b (n - b)) ≡ 0
unfolding records_of_blocks
count-last bytes b n h = let e : n - b ≡ 0 = omega arith in ap (λ (m : ℕ). length (records_from bytes b m)) e

-- the counts of sound blocks
first-sound : (due : ℕ) (bytes : List ℕ) (n : ℕ) → sound_blocks due bytes (suc n) ≡ suc n
    → (block_sound due (take 512 bytes) ≡ true) × (sound_blocks (suc due) (drop 512 bytes) n ≡ n)
unfolding sound_blocks
first-sound due bytes n =
    by (block_sound due (take 512 bytes))
    (λ t. pick t (suc (sound_blocks (suc due) (drop 512 bytes) n)) 0 ≡ suc n → (t ≡ true) × (sound_blocks (suc due) (drop 512 bytes) n ≡ n))
    (λ u w. (refl, omega arith))
    (λ u w. absurd (omega arith))

sound-count : (due : ℕ) (bytes : List ℕ) (n : ℕ) → sound_blocks due bytes n ≡ n → (k : ℕ) → k < n → byte_at bytes (512 * k + 2) ≤ 15
unfolding byte_at
sound-count due bytes zero e k h = absurd (omega arith)
sound-count due bytes (suc n) e zero h =
    omega (arith, (sound due (take 512 bytes) (first-sound due bytes n e).0).count_so, block-count bytes 0)
sound-count due bytes (suc n) e (suc k) h =
    let q : 512 + (512 * k + 2) ≡ 512 * suc k + 2 = omega arith in
    omega (
      arith,
      sound-count (suc due) (drop 512 bytes) n (first-sound due bytes n e).1 k (omega arith),
      get_or-drop 512 bytes (512 * k + 2) 0,
      ap (λ (m : ℕ). get_or bytes m 0) q,
    )

-- the numbers of the records from block b on are those of the slots from there on
module _ (bytes : List ℕ) (small : (k : ℕ) → k < length bytes / 512 → byte_at bytes (512 * k + 2) ≤ 15) where
  file-slots : (n b : ℕ) → b + n ≤ length bytes / 512 → numbers_of (records_from bytes b n) ≡ slot_numbers bytes (16 * b) (16 * n)
  unfolding records_of_blocks slot_numbers numbers_of
  file-slots zero b h = refl
  file-slots (suc n) b h =
      let count = byte_at bytes (512 * b + 2) in
      let l = small b (omega arith) in
      let s : 16 * b ≡ 16 * b + 0 = omega arith in
      let r : 16 * suc n ≡ count + (16 - (0 + count) + 16 * n) = omega arith in
      let u : 16 * b + 16 ≡ 16 * suc b = omega arith in
      ap numbers_of (from_block bytes b n)
      ∙ numbers-append (own_records bytes b) (records_from bytes (suc b) n)
      ∙ ap (λ (xs : List ℕ). numbers_of (own_records bytes b) ++ xs)
      (file-slots n (suc b) (omega arith) ∙ ap (λ (m : ℕ). slot_numbers bytes m (16 * n)) (sym u))
      ∙ sym (block-slots bytes b 0 count (16 * n) (omega arith) (omega arith))
      ∙ sym (λ t. slot_numbers bytes (s t) (r t))

-- the claim numbers of a file of sound blocks
pub all-numbers : (bytes : List ℕ) → sound_all bytes ≡ true → numbers_of (file_records bytes) ≡ numbers_from bytes 0
unfolding sound_all file_records numbers_from
all-numbers bytes h =
    let t = simp and-eq-true_iff at h in
    let whole : length bytes % 512 ≡ 0 = eqb-true _ _ t.0.1 in
    let e : 16 * (length bytes / 512) ≡ length bytes / 32 - 0 = omega arith in
    file-slots bytes (sound-count 0 bytes (length bytes / 512) (eqb-true _ _ t.0.0)) (length bytes / 512) 0 (omega arith)
    ∙ ap (slot_numbers bytes 0) e

-- claim numbers have 32 bits
module _ (bytes : List ℕ) (fits : (i : ℕ) → get_or bytes i 0 < 256) where
  pub number-fits : (at : ℕ) → four_at bytes at < 4294967296
  unfolding four_at two_at byte_at
  number-fits at = omega (arith, fits at, fits (at + 1), fits (at + 2), fits (at + 2 + 1))

  more : (x : ℕ) (xs : List ℕ) → x < 4294967296 → ((k : ℕ) → get_or xs k 0 < 4294967296) → (k : ℕ) → get_or (x ∷ xs) k 0 < 4294967296
  more x xs h f zero = h
  more x xs h f (suc k) = f k

  slots-fit : (n s k : ℕ) → get_or (slot_numbers bytes s n) k 0 < 4294967296
  unfolding slot_numbers
  slots-fit zero s k = omega arith
  slots-fit (suc n) s k =
      by (slot_filled bytes s) (λ t. get_or (pick t (four_at bytes (32 * s + 16) ∷ slot_numbers bytes (suc s) n) (slot_numbers bytes (suc s) n)) k 0 < 4294967296)
      (λ _. more (four_at bytes (32 * s + 16)) (slot_numbers bytes (suc s) n) (number-fits (32 * s + 16)) (slots-fit n (suc s)) k)
      (λ _. slots-fit n (suc s) k)

  pub numbers-fit : (s k : ℕ) → get_or (numbers_from bytes s) k 0 < 4294967296
  unfolding numbers_from
  numbers-fit s k = slots-fit (length bytes / 32 - s) s k

-- a walk over the records: from the slot where the numbers from place k on begin, the next record has the number at place k
module _ (bytes xs : List ℕ) (k next : ℕ) (h : k < length xs) (e : numbers_from bytes next ≡ drop k xs) where
  pub walk-left : 0 < length (numbers_from bytes next)
  walk-left = omega (arith, ap length e, length-drop k xs)

  pub walk-number : (r : ℕ) → NextRecord bytes next r → four_at bytes (32 * r + 16) ≡ get_or xs k 0
  walk-number r w = ap (λ (l : List ℕ). get_or l 0 0) (sym w.rest ∙ e ∙ drop-cons xs k 0 h)

  pub walk-on : (r : ℕ) → NextRecord bytes next r → numbers_from bytes (r + 1) ≡ drop (k + 1) xs
  walk-on r w =
      let g : suc k ≡ k + 1 = omega arith in
      ap (drop 1) (sym w.rest ∙ e ∙ drop-cons xs k 0 h) ∙ ap (λ (n : ℕ). drop n xs) g
