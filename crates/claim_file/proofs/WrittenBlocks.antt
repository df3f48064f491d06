-- A block stored in runs, head, middle, zeros and check, is the sealed list of them.
-- Assumes nothing.
use Prim.Native.Nat.{ℕ, ◌+◌, ◌-◌, ◌*◌, ◌/◌, ◌%◌, ◌≤◌}
use mathlib.Core.Path.{◌≡◌, refl, sym, ap, ◌∙◌}
use mathlib.Core.Bool.{Bool, true, ◌&&◌}
use mathlib.Core.List.{List, ◌∷◌, ◌++◌, append_assoc}
use native.Mathlib.Omega.{arith}
use lib.Dec.{leb, eqb}
use borrow.Author.Tests.{le-leb, eq-eqb}
use lib.ListN.{length, take, drop, length-append}
use lib.Seq.{sets, sets-eq}
use Rattle.basics.specs.Pick.{pick}
use Rattle.calendar.specs.declared.Date.{Date}
use Rattle.claim_months.specs.declared.Claim.{Claim}
use Rattle.claim_file.specs.declared.Block.{Block}
use Rattle.claim_file.specs.BlockAnswers.{write_sound, write_check, bytes_after, window_after}
use Rattle.claim_file.specs.Bytes.{two, date_bytes, zeros}
use Rattle.claim_file.specs.Record.{all_claim_bytes}
use Rattle.claim_file.specs.Block.{check_number, sealed, window_bytes, bytes_of_block}
use Rattle.claim_file.proofs.Sealed.{check-append}
use Rattle.basics.proofs.Stores.{run}
use Rattle.claim_file.proofs.ByteStores.{sets-all, length-zeros, length-all}

-- the check goes by the first 510 bytes
pub check-stored : (l bytes : List ℕ) → length l ≡ 512 → length bytes ≡ 510 → check_number (sets l 0 bytes) ≡ check_number bytes
check-stored l bytes h k = ap check_number (sets-eq bytes l 0 (omega arith)) ∙ check-append bytes (drop (0 + length bytes) l) k

seal : (l a b bytes : List ℕ) → length l ≡ 512 → length bytes ≡ 510 → a ≡ sets l 0 bytes → b ≡ sets a 510 (two (check_number a)) → b ≡ sealed bytes
unfolding sealed
seal l a b bytes h k p q =
    let n = length-append bytes (two (check_number bytes)) in
    run l a b bytes (two (check_number a)) 0 510 (omega arith) p q
    ∙ ap (λ (c : ℕ). sets l 0 (bytes ++ two c)) (ap check_number p ∙ check-stored l bytes h k)
    ∙ sets-all l (bytes ++ two (check_number bytes)) (omega arith)

-- the head, what stands from byte 16 on, zeros and the check
written : (l a b d e head middle : List ℕ) (j z : ℕ) → length l ≡ 512 → length head ≡ 16 → j ≡ 16 + length middle → j + z ≡ 510
    → a ≡ sets l 0 head
    → b ≡ sets a 16 middle
    → d ≡ sets b j (zeros z)
    → e ≡ sets d 510 (two (check_number d))
    → e ≡ sealed (head ++ (middle ++ zeros z))
written l a b d e head middle j z h s m f p q r t =
    let x = length-append head middle in
    let y = length-append (head ++ middle) (zeros z) in
    let k = length-zeros z in
    let u = run l a b head middle 0 16 (omega arith) p q in
    let v = run l b d (head ++ middle) (zeros z) 0 j (omega arith) u r in
    seal l d e ((head ++ middle) ++ zeros z) h (omega arith) v t ∙ ap sealed (append_assoc head middle (zeros z))

abbrev pub head_bytes : ℕ → ℕ → List ℕ
head_bytes number count = two number ++ (count ∷ zeros 13)

head-length : (number count : ℕ) → length (head_bytes number count) ≡ 16
unfolding zeros
head-length number count = refl

pub block_written : (l a b d e : List ℕ) (number count : ℕ) (cs : List Claim) → length l ≡ 512 → length cs ≡ count → count ≤ 15
    → a ≡ sets l 0 (head_bytes number count)
    → b ≡ sets a 16 (all_claim_bytes cs)
    → d ≡ sets b (16 + 32 * count) (zeros (510 - (16 + 32 * count)))
    → e ≡ sets d 510 (two (check_number d))
    → e ≡ bytes_of_block number cs
unfolding bytes_of_block
block_written l a b d e number count cs h n f p q r t =
    let m = length-all cs in
    let c : count ≡ length cs = sym n in
    let z : 510 - (16 + 32 * count) ≡ 494 - 32 * length cs = omega arith in
    written l a b d e (head_bytes number count) (all_claim_bytes cs) (16 + 32 * count) (510 - (16 + 32 * count)) h
    (head-length number count) (omega arith) (omega arith) p q r t
    ∙ (λ i. sealed (number % 256 ∷ number / 256 % 256 ∷ c i ∷ (zeros 13 ++ (all_claim_bytes cs ++ zeros (z i)))))

pub window-written : (l a b d e f : List ℕ) (first last : Date) → length l ≡ 512
    → a ≡ sets l 0 (head_bytes 0 0)
    → b ≡ sets a 16 (date_bytes first)
    → d ≡ sets b 20 (date_bytes last)
    → e ≡ sets d 24 (zeros 486)
    → f ≡ sets e 510 (two (check_number e))
    → f ≡ window_bytes first last
unfolding window_bytes
window-written l a b d e f first last h p q r t u =
    let m = run a b d (date_bytes first) (date_bytes last) 16 20 refl q r in
    written l a d e f (head_bytes 0 0) (date_bytes first ++ date_bytes last) 24 486 h (head-length 0 0) refl refl p m t u

-- what the calls answer and leave, as their tests come out
module _ (number : ℕ) (block : Block) (old : List ℕ) where
  pub write-is : {n u c l : Bool}
      → leb 1 number ≡ n
      → leb number 65535 ≡ u
      → leb block.count 15 ≡ c
      → eqb (length old) 512 ≡ l
      → write_sound number block.count (length old) ≡ (n && u && c && l)
  unfolding write_sound
  write-is n u c l = λ i. n i && u i && c i && l i

  pub written-so : 1 ≤ number → number ≤ 65535 → block.count ≤ 15 → length old ≡ 512 → write_sound number block.count (length old) ≡ true
  written-so a b c d = write-is (le-leb _ _ a) (le-leb _ _ b) (le-leb _ _ c) (eq-eqb _ _ d)

  abbrev pub Answered : ℕ → List ℕ → Type 0
  Answered r new = (r ≡ write_check number block.count (length old)) × (new ≡ bytes_after number block old)

  pub write_done : (new : List ℕ) → write_sound number block.count (length old) ≡ true
      → new ≡ bytes_of_block number (take block.count block.claims) → Answered 0 new
  unfolding write_check bytes_after
  write_done new e b = (rw e, rw e b)

module _ (first last : Date) (old : List ℕ) where
  abbrev pub AnsweredWindow : ℕ → List ℕ → Type 0
  AnsweredWindow r new = (r ≡ pick (eqb (length old) 512) 0 11) × (new ≡ window_after first last old)

  pub window-done : (new : List ℕ) → length old ≡ 512 → new ≡ window_bytes first last → AnsweredWindow 0 new
  unfolding window_after
  window-done new h b = let e = eq-eqb (length old) 512 h in (rw e, rw e b)
