-- Bytes cut at a place: what is read from byte i on goes by the rest of the list there, and a part that is read is the part that was stored.
-- Assumes nothing.
use Prim.Native.Nat.{ℕ, zero, suc, ◌+◌, ◌*◌, ◌/◌, ◌%◌, ◌≤◌, ◌<◌}
use mathlib.Core.Path.{◌≡◌, refl, sym, ap, subst, ◌∙◌}
use mathlib.Core.Bool.{true, ◌&&◌}
use mathlib.Core.List.{List, [], ◌∷◌, ◌++◌}
use native.Mathlib.Omega.{arith}
use native.Mathlib.Nat.{mod-eq_of_lt}
use native.Mathlib.Numerals.{add-one, add-two, add-three}
use lib.ListN.{length, get_or, drop, length-drop}
use lib.Seq.{get_or-drop, drop-drop, drop-cons}
use lib.Dec.{eqb}
use borrow.Author.Tests.{eqb-true}
use Rattle.calendar.proofs.Laws.{same-date}
use Rattle.basics.proofs.Tests.{and_left, and_right}
use Rattle.claim_months.specs.declared.Claim.{Claim}
use Rattle.claim_file.specs.Bytes.{byte_at, two_at, four_at, date_from, zero_from, two, date_bytes, zeros}
use Rattle.claim_file.specs.Record.{record_padded, claim_from, claim_bytes}
use Rattle.claim_file.proofs.RecordParts.{same-claim}
use Rattle.claim_file.proofs.ByteStores.{four_bytes}

-- reading from byte i on
module _ (bytes : List ℕ) (i : ℕ) where
  byte-drop : (j k : ℕ) → j ≡ i + k → byte_at bytes j ≡ byte_at (drop i bytes) k
  unfolding byte_at
  byte-drop j k e = ap (λ (n : ℕ). get_or bytes n 0) e ∙ sym (get_or-drop i bytes k 0)

  two-drop : (j k : ℕ) → j ≡ i + k → two_at bytes j ≡ two_at (drop i bytes) k
  unfolding two_at
  two-drop j k e = λ d. byte-drop j k e d + 256 * byte-drop (j + 1) (k + 1) (omega arith) d

  pub date-drop : (j k : ℕ) → j ≡ i + k → date_from bytes j ≡ date_from (drop i bytes) k
  unfolding date_from
  date-drop j k e = same-date _ _ (two-drop j k e) (byte-drop (j + 2) (k + 2) (omega arith)) (byte-drop (j + 3) (k + 3) (omega arith))

  pub claim-drop : claim_from bytes i ≡ claim_from (drop i bytes) 0
  unfolding claim_from four_at
  claim-drop =
      same-claim _ _
      (λ d. two-drop i 0 (omega arith) d + 65536 * two-drop (i + 2) 2 refl d)
      (date-drop (i + 4) 4 refl)
      (date-drop (i + 8) 8 refl)
      (date-drop (i + 12) 12 refl)
      (date-drop (i + 16) 16 refl)
      (byte-drop (i + 20) 20 refl)
      (byte-drop (i + 21) 21 refl)
      (two-drop (i + 22) 22 refl)
      (byte-drop (i + 24) 24 refl)

  pub zero-drop : (n j k : ℕ) → j ≡ i + k → zero_from bytes j n ≡ zero_from (drop i bytes) k n
  unfolding zero_from
  zero-drop zero j k e = refl
  zero-drop (suc n) j k e = λ d. eqb (byte-drop j k e d) 0 && zero-drop n (suc j) (suc k) (omega arith) d

-- the n bytes from byte j on
unfoldable pub part : List ℕ → ℕ → ℕ → List ℕ
part bytes j zero = []
part bytes j (suc n) = byte_at bytes j ∷ part bytes (suc j) n

pub part-split : (bytes : List ℕ) (n j : ℕ) → j + n ≤ length bytes → drop j bytes ≡ part bytes j n ++ drop (j + n) bytes
unfolding part byte_at
part-split bytes zero j h = let e : j ≡ j + 0 = omega arith in ap (λ (k : ℕ). drop k bytes) e
part-split bytes (suc n) j h =
    let e : suc j + n ≡ j + suc n = omega arith in
    drop-cons bytes j 0 (omega arith)
    ∙ ap (λ (r : List ℕ). get_or bytes j 0 ∷ r) (part-split bytes n (suc j) (omega arith) ∙ ap (λ (k : ℕ). part bytes (suc j) n ++ drop k bytes) e)

zero-part : (bytes : List ℕ) (n j : ℕ) → zero_from bytes j n ≡ true → zeros n ≡ part bytes j n
unfolding part zero_from zeros
zero-part bytes zero j h = refl
zero-part bytes (suc n) j h =
    let a = sym (eqb-true _ _ (and_left (eqb (byte_at bytes j) 0) (zero_from bytes (suc j) n) h)) in
    let b = zero-part bytes n (suc j) (and_right (eqb (byte_at bytes j) 0) (zero_from bytes (suc j) n) h) in
    λ d. a d ∷ b d

pub zero-split : (bytes : List ℕ) (j n : ℕ) → j + n ≤ length bytes → zero_from bytes j n ≡ true → drop j bytes ≡ zeros n ++ drop (j + n) bytes
zero-split bytes j n h z = part-split bytes n j h ∙ ap (λ (r : List ℕ). r ++ drop (j + n) bytes) (sym (zero-part bytes n j z))

-- bytes of what was read are the bytes read
two-of : (a b : ℕ) → a < 256 → b < 256 → two (a + 256 * b) ≡ a ∷ b ∷ []
two-of a b h k =
    let p : (a + 256 * b) % 256 ≡ a = omega arith in
    let r : (a + 256 * b) / 256 ≡ b = omega arith in
    let q : (a + 256 * b) / 256 % 256 ≡ b = ap (λ (n : ℕ). n % 256) r ∙ mod-eq_of_lt k in
    λ i. p i ∷ q i ∷ []

halves : (a b h : ℕ) → a < 256 → b < 256 → ((a + 256 * b + 65536 * h) % 65536 ≡ a + 256 * b) × ((a + 256 * b + 65536 * h) / 65536 ≡ h)
halves a b h p q = omega arith

module _ (bytes : List ℕ) where
  pub two-read : (j : ℕ) → byte_at bytes j < 256 → byte_at bytes (j + 1) < 256 → two (two_at bytes j) ≡ byte_at bytes j ∷ byte_at bytes (j + 1) ∷ []
  unfolding two_at
  two-read j h k = two-of (byte_at bytes j) (byte_at bytes (j + 1)) h k

  pub date-read : (j : ℕ) → byte_at bytes j < 256 → byte_at bytes (j + 1) < 256
      → date_bytes (date_from bytes j) ≡ byte_at bytes j ∷ byte_at bytes (j + 1) ∷ byte_at bytes (j + 2) ∷ byte_at bytes (j + 3) ∷ []
  unfolding date_from
  date-read j h k = ap (λ (r : List ℕ). r ++ (byte_at bytes (j + 2) ∷ byte_at bytes (j + 3) ∷ [])) (two-read j h k)

  pub date-split : (j : ℕ) → j + 4 ≤ length bytes → byte_at bytes j < 256 → byte_at bytes (j + 1) < 256
      → drop j bytes ≡ date_bytes (date_from bytes j) ++ drop (j + 4) bytes
  unfolding part
  date-split j l h k =
      let e : byte_at bytes j ∷ byte_at bytes (suc j) ∷ byte_at bytes (suc (suc j)) ∷ byte_at bytes (suc (suc (suc j))) ∷ []
      ≡ byte_at bytes j ∷ byte_at bytes (j + 1) ∷ byte_at bytes (j + 2) ∷ byte_at bytes (j + 3) ∷ [] = simp (add-one, add-two, add-three) in
      part-split bytes 4 j l ∙ ap (λ (r : List ℕ). r ++ drop (j + 4) bytes) (e ∙ sym (date-read j h k))

  four-read : byte_at bytes 0 < 256 → byte_at bytes 1 < 256 → byte_at bytes 2 < 256 → byte_at bytes 3 < 256
      → four_at bytes 0 % 256 ∷ four_at bytes 0 / 256 % 256 ∷ four_at bytes 0 / 65536 % 256 ∷ four_at bytes 0 / 16777216 % 256 ∷ [] ≡ part bytes 0 4
  unfolding two_at four_at part
  four-read a b c d =
      let e = halves (byte_at bytes 0) (byte_at bytes 1) (two_at bytes 2) a b in
      sym (four_bytes (two_at bytes 0 + 65536 * two_at bytes 2))
      ∙ (λ i. two (e.0 i) ++ two (e.1 i))
      ∙ (λ i. two-read 0 a b i ++ two-read 2 c d i)

  -- a claim's 32 bytes
  claim-read : ((j : ℕ) → j < 32 → byte_at bytes j < 256) → zero_from bytes 25 7 ≡ true → claim_bytes (claim_from bytes 0) ≡ part bytes 0 32
  unfolding claim_from claim_bytes part zeros
  claim-read h z =
      let b : (j : ℕ) → j ≤ 31 → byte_at bytes j < 256 = λ j l. h j (omega arith) in
      let n = four-read (b 0 (omega arith)) (b 1 (omega arith)) (b 2 (omega arith)) (b 3 (omega arith)) in
      let d : (j : ℕ) → j ≤ 30
      → date_bytes (date_from bytes j) ≡ byte_at bytes j ∷ byte_at bytes (j + 1) ∷ byte_at bytes (j + 2) ∷ byte_at bytes (j + 3) ∷ [] =
      λ j l. date-read j (b j (omega arith)) (b (j + 1) (omega arith)) in
      let c = two-read 22 (b 22 (omega arith)) (b 23 (omega arith)) in
      let o = zero-part bytes 7 25 z in
      λ i.
      n i
      ++ (d 4 (omega arith) i
      ++ (d 8 (omega arith) i
      ++ (d 12 (omega arith) i ++ (d 16 (omega arith) i ++ (byte_at bytes 20 ∷ byte_at bytes 21 ∷ (c i ++ (byte_at bytes 24 ∷ o i)))))))

pub claim-split : (bytes : List ℕ) (i : ℕ) → i + 32 ≤ length bytes → ((j : ℕ) → j < length bytes → byte_at bytes j < 256)
    → record_padded bytes i ≡ true → drop i bytes ≡ claim_bytes (claim_from bytes i) ++ drop (i + 32) bytes
unfolding record_padded
claim-split bytes i h b z =
    let l = length-drop i bytes in
    let s : (j : ℕ) → j < 32 → byte_at (drop i bytes) j < 256 =
    λ j k. subst (λ (n : ℕ). n < 256) (byte-drop bytes i (i + j) j refl) (b (i + j) (omega arith)) in
    let r = sym (claim-read (drop i bytes) s (sym (zero-drop bytes i 7 (i + 25) 25 refl) ∙ z)) in
    part-split (drop i bytes) 32 0 (omega arith)
    ∙ (λ d. r d ++ drop-drop 32 i bytes d)
    ∙ ap (λ (c : Claim). claim_bytes c ++ drop (i + 32) bytes) (sym (claim-drop bytes i))
