-- Of blocks: what is written reads back, what was read rewrites to the very bytes, and one changed byte is refused.
-- Assumes nothing.
use Prim.Native.Nat.{ℕ, zero, suc, ◌+◌, ◌-◌, ◌*◌, ◌/◌, ◌%◌, ◌≤◌, ◌<◌}
use mathlib.Core.Path.{◌≡◌, refl, sym, ap, ◌∙◌}
use mathlib.Core.Bool.{true, false, ◌&&◌, and-eq-true_iff}
use mathlib.Core.List.{List, [], ◌∷◌, ◌++◌, append_assoc}
use native.Mathlib.Omega.{arith}
use mathlib.Core.Logic.{⊎_elim}
use native.Mathlib.Nat.{not-suc-le-zero, le_of_suc-le-suc, eq-or-lt_of_le}
use lib.ListN.{length, get_or, set, drop, length-append}
use lib.Seq.{drop-drop, drop-cons, drop-length}
use lib.Dec.{eqb}
use borrow.Author.Tests.{eqb-true, le-leb}
use Rattle.basics.specs.Pick.{pick}
use Rattle.calendar.specs.declared.Date.{Date}
use Rattle.calendar.proofs.Laws.{same-date}
use Rattle.basics.proofs.Tests.{by, and_left, and_right}
use Rattle.claim_months.specs.declared.Claim.{Claim}
use Rattle.claim_file.specs.Bytes.{byte_at, two_at, four_at, date_from, zero_from, two, date_bytes, zeros}
use Rattle.claim_file.specs.Record.{record_padded, claim_from, claim_bytes, all_claim_bytes}
use Rattle.claim_file.specs.Block.{block_claim, claim_count, check_number, claims_padded, framed, window_block, claim_block, block_sound, sealed, window_bytes, bytes_of_block}
use Rattle.claim_file.specs.BlockAnswers.{no_claim}
use Rattle.claim_file.specs.Files.{claims_of_block}
use Rattle.claim_file.specs.RoundTrip.{DateFits, ClaimFits}
use Rattle.claim_file.proofs.RecordParts.{same-claim}
use Rattle.claim_file.proofs.BlockTests.{check-decides, claims-are, window-is, ClaimBlock, claim-block, window-block}
use Rattle.claim_file.proofs.Changed.{check-refused}
use Rattle.claim_file.proofs.ByteStores.{length-zeros, length-all, four_bytes}
use Rattle.claim_file.proofs.Split.{date-drop, claim-drop, zero-drop, zero-split, date-split, claim-split}
use Rattle.claim_file.proofs.Sealed.{body, two-whole, sealed-framed, sealed-drop, sealed-again}

-- a date and a claim from their bytes
date-back : (d : Date) (rest : List ℕ) → DateFits d → date_from (date_bytes d ++ rest) 0 ≡ d
unfolding date_from two_at byte_at
date-back d rest f = same-date _ _ (two-whole d.year f.year_fits) refl refl

halves-back : (n : ℕ) → n < 4294967296 → n % 256 + 256 * (n / 256 % 256) + 65536 * (n / 65536 % 256 + 256 * (n / 16777216 % 256)) ≡ n
halves-back n h =
    let l : n / 65536 < 65536 = omega arith in
    let a = two-whole (n % 65536) (omega arith) in
    let b = two-whole (n / 65536) l in
    let p : get_or (two (n % 65536) ++ two (n / 65536)) 0 0 ≡ n % 256 = ap (λ (r : List ℕ). get_or r 0 0) (four_bytes n) in
    let q : get_or (two (n % 65536) ++ two (n / 65536)) 1 0 ≡ n / 256 % 256 = ap (λ (r : List ℕ). get_or r 1 0) (four_bytes n) in
    let r : get_or (two (n % 65536) ++ two (n / 65536)) 3 0 ≡ n / 16777216 % 256 = ap (λ (r : List ℕ). get_or r 3 0) (four_bytes n) in
    omega arith

pub claim-back : (c : Claim) (rest : List ℕ) → ClaimFits c → claim_from (claim_bytes c ++ rest) 0 ≡ c
unfolding claim_from four_at date_from two_at byte_at claim_bytes
claim-back c rest f =
    same-claim _ _
    (halves-back c.number f.number_fits)
    (date-back c.disability [] f.disability_fits)
    (date-back c.bcd [] f.bcd_fits)
    (date-back c.termination [] f.termination_fits)
    (date-back c.maximum [] f.maximum_fits)
    refl refl (two-whole c.cell f.cell_fits) refl

-- zeros, and the zeros past a claim's fields
zeros-zero : (n : ℕ) (rest : List ℕ) → zero_from (zeros n ++ rest) 0 n ≡ true
unfolding zeros zero_from byte_at
zeros-zero zero rest = refl
zeros-zero (suc n) rest = zero-drop (0 ∷ (zeros n ++ rest)) 1 n 1 0 refl ∙ zeros-zero n rest

pub claim-padded : (c : Claim) (rest : List ℕ) → zero_from (claim_bytes c ++ rest) 25 7 ≡ true
unfolding claim_bytes zero_from byte_at
claim-padded c rest = refl

pub drop_all : (cs : List Claim) (k : ℕ) (rest : List ℕ) → k ≤ length cs → drop (32 * k) (all_claim_bytes cs ++ rest) ≡ all_claim_bytes (drop k cs) ++ rest
unfolding all_claim_bytes claim_bytes
drop_all cs zero rest h = refl
drop_all [] (suc k) rest h = absurd (not-suc-le-zero h)
drop_all (c ∷ cs) (suc k) rest h =
    let e : 32 * suc k ≡ 32 + 32 * k = omega arith in
    ap (λ (n : ℕ). drop n (all_claim_bytes (c ∷ cs) ++ rest)) e
    ∙ sym (drop-drop (32 * k) 32 (all_claim_bytes (c ∷ cs) ++ rest))
    ∙ drop_all cs k rest (omega arith)

-- 1. What is written reads back.
module _ (n : ℕ) (cs : List Claim) (few : length cs ≤ 15) where
  middle : List ℕ
  middle = all_claim_bytes cs ++ zeros (494 - 32 * length cs)

  last : List ℕ
  last = two (check_number (body n (length cs) middle))

  -- from claim k on
  from-claim : (k : ℕ) → k ≤ length cs → drop (16 + 32 * k) (bytes_of_block n cs) ≡ all_claim_bytes (drop k cs) ++ (zeros (494 - 32 * length cs) ++ last)
  unfolding bytes_of_block middle last
  from-claim k h =
      sym (drop-drop (32 * k) 16 (bytes_of_block n cs))
      ∙ ap (drop (32 * k)) (sealed-drop n (length cs) middle ∙ append_assoc (all_claim_bytes cs) (zeros (494 - 32 * length cs)) last)
      ∙ drop_all cs k (zeros (494 - 32 * length cs) ++ last) h

  -- at claim k
  at-claim : (k : ℕ) (d : Claim) → k < length cs
      → drop (16 + 32 * k) (bytes_of_block n cs) ≡ claim_bytes (get_or cs k d) ++ (all_claim_bytes (drop (suc k) cs) ++ (zeros (494 - 32 * length cs) ++ last))
  unfolding all_claim_bytes
  at-claim k d h =
      from-claim k (omega arith)
      ∙ ap (λ (r : List Claim). all_claim_bytes r ++ (zeros (494 - 32 * length cs) ++ last)) (drop-cons cs k d h)
      ∙ append_assoc (claim_bytes (get_or cs k d)) (all_claim_bytes (drop (suc k) cs)) (zeros (494 - 32 * length cs) ++ last)

  padded-all : (k : ℕ) → k ≤ length cs → claims_padded (bytes_of_block n cs) k ≡ true
  unfolding claims_padded record_padded
  padded-all zero h = refl
  padded-all (suc k) h =
      let d = get_or cs k no_claim in
      let z = zero-drop (bytes_of_block n cs) (16 + 32 * k) 7 (16 + 32 * k + 25) 25 refl
      ∙ ap (λ (r : List ℕ). zero_from r 25 7) (at-claim k no_claim h)
      ∙ claim-padded d (all_claim_bytes (drop (suc k) cs) ++ (zeros (494 - 32 * length cs) ++ last)) in
      λ i. padded-all k (omega arith) i && z i

  rest-zero : zero_from (bytes_of_block n cs) (16 + 32 * length cs) (494 - 32 * length cs) ≡ true
  unfolding all_claim_bytes
  rest-zero =
      let m = 494 - 32 * length cs in
      zero-drop (bytes_of_block n cs) (16 + 32 * length cs) m (16 + 32 * length cs) 0 (omega arith)
      ∙ ap (λ (r : List ℕ). zero_from r 0 m)
      (from-claim (length cs) (omega arith) ∙ ap (λ (r : List Claim). all_claim_bytes r ++ (zeros m ++ last)) (drop-length cs))
      ∙ zeros-zero m last

  pub written_count : claim_count (bytes_of_block n cs) ≡ length cs
  unfolding claim_count byte_at bytes_of_block sealed
  written_count = refl

  middle-length : length middle ≡ 494
  unfolding middle
  middle-length =
      let a = length-append (all_claim_bytes cs) (zeros (494 - 32 * length cs)) in
      let b = length-all cs in
      let c = length-zeros (494 - 32 * length cs) in
      omega arith

  pub written-sound : n ≤ 65535 → claim_block n (bytes_of_block n cs) ≡ true
  unfolding bytes_of_block middle
  written-sound h =
      let e = written_count in
      claims-are n (bytes_of_block n cs)
      (sealed-framed n (length cs) middle middle-length (omega arith))
      (le-leb (claim_count (bytes_of_block n cs)) 15 (omega arith))
      (ap (claims_padded (bytes_of_block n cs)) e ∙ padded-all (length cs) (omega arith))
      (ap (λ (k : ℕ). zero_from (bytes_of_block n cs) (16 + 32 * k) (494 - 32 * k)) e ∙ rest-zero)

  pub written-claim : (k : ℕ) (d : Claim) → k < length cs → ClaimFits (get_or cs k d) → block_claim (bytes_of_block n cs) k ≡ get_or cs k d
  unfolding block_claim
  written-claim k d h f =
      claim-drop (bytes_of_block n cs) (16 + 32 * k)
      ∙ ap (λ (r : List ℕ). claim_from r 0) (at-claim k d h)
      ∙ claim-back (get_or cs k d) (all_claim_bytes (drop (suc k) cs) ++ (zeros (494 - 32 * length cs) ++ last)) f

pub window-sound : (b e : Date) → window_block (window_bytes b e) ≡ true
unfolding window_bytes claim_count byte_at sealed
window-sound b e =
    let m = date_bytes b ++ (date_bytes e ++ zeros 486) in
    let z = length-zeros 486 in
    window-is (window_bytes b e)
    (sealed-framed 0 0 m (omega arith) (omega arith))
    refl
    (zero-drop (window_bytes b e) 16 486 24 8 refl ∙ ap (λ (r : List ℕ). zero_from r 8 486) (sealed-drop 0 0 m) ∙ zero-drop (m ++ two (check_number (body 0 0 m))) 8 486 8 0 refl ∙ zeros-zero 486 (two (check_number (body 0 0 m))))

pub window-first : (b e : Date) → DateFits b → date_from (window_bytes b e) 16 ≡ b
unfolding window_bytes
window-first b e f =
    let m = date_bytes b ++ (date_bytes e ++ zeros 486) in
    date-drop (window_bytes b e) 16 16 0 refl
    ∙ ap (λ (r : List ℕ). date_from r 0) (sealed-drop 0 0 m)
    ∙ date-back b ((date_bytes e ++ zeros 486) ++ two (check_number (body 0 0 m))) f

pub window-last : (b e : Date) → DateFits e → date_from (window_bytes b e) 20 ≡ e
unfolding window_bytes
window-last b e f =
    let m = date_bytes b ++ (date_bytes e ++ zeros 486) in
    let t = two (check_number (body 0 0 m)) in
    date-drop (window_bytes b e) 16 20 4 refl
    ∙ ap (λ (r : List ℕ). date_from r 4) (sealed-drop 0 0 m)
    ∙ date-drop (m ++ t) 4 4 0 refl
    ∙ date-back e (zeros 486 ++ t) f

-- 2. What was read rewrites to the very bytes.
pub padded-at : (bytes : List ℕ) (n k : ℕ) → claims_padded bytes n ≡ true → k < n → record_padded bytes (16 + 32 * k) ≡ true
unfolding claims_padded
padded-at bytes zero k p h = absurd (not-suc-le-zero h)
padded-at bytes (suc n) k p h =
    ⊎_elim
    (λ (q : k ≡ n). ap (λ (j : ℕ). record_padded bytes (16 + 32 * j)) q ∙ and_right (claims_padded bytes n) (record_padded bytes (16 + 32 * n)) p)
    (λ (l : k < n). padded-at bytes n k (and_left (claims_padded bytes n) (record_padded bytes (16 + 32 * n)) p) l)
    (eq-or-lt_of_le (le_of_suc-le-suc h))

pub length-read : (bytes : List ℕ) (n k : ℕ) → length (claims_of_block bytes k n) ≡ n
unfolding claims_of_block
length-read bytes zero k = refl
length-read bytes (suc n) k = ap suc (length-read bytes n (suc k))

module _ (due : ℕ) (bytes : List ℕ) (small : (j : ℕ) → j < 512 → byte_at bytes j < 256) where
  claims-split : ClaimBlock due bytes → (n k : ℕ) → k + n ≤ claim_count bytes
      → drop (16 + 32 * k) bytes ≡ all_claim_bytes (claims_of_block bytes k n) ++ drop (16 + 32 * (k + n)) bytes
  unfolding claims_of_block all_claim_bytes block_claim
  claims-split b zero k h = let e : k ≡ k + 0 = omega arith in ap (λ (j : ℕ). drop (16 + 32 * j) bytes) e
  claims-split b (suc n) k h =
      let l = b.length-so in
      let c = b.count_so in
      let e : 16 + 32 * k + 32 ≡ 16 + 32 * suc k = omega arith in
      let g : suc k + n ≡ k + suc n = omega arith in
      claim-split bytes (16 + 32 * k) (omega arith) (λ j q. small j (omega arith)) (padded-at bytes (claim_count bytes) k b.padded-so (omega arith))
      ∙ ap (λ (r : List ℕ). claim_bytes (claim_from bytes (16 + 32 * k)) ++ r)
      (ap (λ (j : ℕ). drop j bytes) e ∙ claims-split b n (suc k) (omega arith) ∙ ap (λ (j : ℕ). all_claim_bytes (claims_of_block bytes (suc k) n) ++ drop (16 + 32 * j) bytes) g)
      ∙ sym (append_assoc (claim_bytes (claim_from bytes (16 + 32 * k))) (all_claim_bytes (claims_of_block bytes (suc k) n)) (drop (16 + 32 * (k + suc n)) bytes))

  pub rewritten : claim_block due bytes ≡ true → bytes_of_block due (claims_of_block bytes 0 (claim_count bytes)) ≡ bytes
  unfolding bytes_of_block
  rewritten s =
      let b = claim-block due bytes s in
      let l = b.length-so in
      let f = b.count_so in
      let n = claim_count bytes in
      let cs = claims_of_block bytes 0 n in
      let q : length cs ≡ n = length-read bytes n 0 in
      let z : 494 - 32 * length cs ≡ 494 - 32 * n = omega arith in
      let x : 16 + 32 * n + (494 - 32 * n) ≡ 510 = omega arith in
      let m = all_claim_bytes cs ++ zeros (494 - 32 * n) in
      let g : 16 + 32 * (0 + n) ≡ 16 + 32 * n = omega arith in
      let r : drop 16 bytes ≡ m ++ drop 510 bytes =
      claims-split b n 0 (omega arith)
      ∙ ap (λ (j : ℕ). all_claim_bytes cs ++ drop j bytes) g
      ∙ ap (λ (t : List ℕ). all_claim_bytes cs ++ t) (zero-split bytes (16 + 32 * n) (494 - 32 * n) (omega arith) b.rest-so ∙ ap (λ (j : ℕ). zeros (494 - 32 * n) ++ drop j bytes) x)
      ∙ sym (append_assoc (all_claim_bytes cs) (zeros (494 - 32 * n)) (drop 510 bytes)) in
      let a = length-append (all_claim_bytes cs) (zeros (494 - 32 * n)) in
      let o = length-all cs in
      let u = length-zeros (494 - 32 * n) in
      (λ i. sealed (body due (q i) (all_claim_bytes cs ++ zeros (z i))))
      ∙ sealed-again due bytes m b.framed-so small r (omega arith)

pub window-rewritten : (bytes : List ℕ) → ((j : ℕ) → j < 512 → byte_at bytes j < 256) → window_block bytes ≡ true
    → window_bytes (date_from bytes 16) (date_from bytes 20) ≡ bytes
unfolding window_bytes
window-rewritten bytes small s =
    let b = window-block bytes s in
    let l = b.length-so in
    let m = date_bytes (date_from bytes 16) ++ (date_bytes (date_from bytes 20) ++ zeros 486) in
    let u = length-zeros 486 in
    let r : drop 16 bytes ≡ m ++ drop 510 bytes =
    date-split bytes 16 (omega arith) (small 16 (omega arith)) (small 17 (omega arith))
    ∙ ap (λ (t : List ℕ). date_bytes (date_from bytes 16) ++ t)
    (date-split bytes 20 (omega arith) (small 20 (omega arith)) (small 21 (omega arith))
    ∙ ap (λ (t : List ℕ). date_bytes (date_from bytes 20) ++ t) (zero-split bytes 24 486 (omega arith) b.rest-so)) in
    let c = b.count_so in
    ap (λ (k : ℕ). sealed (body 0 k m)) (sym c) ∙ sealed-again 0 bytes m b.framed-so small r (omega arith)

-- 3. A block in which one byte was changed to another value is refused.
pub framed-changed : (due : ℕ) (bytes : List ℕ) (i v : ℕ) → i < 512 → byte_at bytes i < 256 → v < 256 → (v ≡ byte_at bytes i → ⊥)
    → framed due bytes ≡ true → framed due (set bytes i v) ≡ false
unfolding framed
framed-changed due bytes i v place old new other sound =
    let t = simp and-eq-true_iff at sound in
    check-decides due (set bytes i v)
    (check-refused bytes i v (eqb-true _ _ t.0.0.0) place old new other (eqb-true _ _ t.0.1))

pub changed-refused : (due : ℕ) (bytes : List ℕ) (i v : ℕ) → block_sound due bytes ≡ true → i < 512 → byte_at bytes i < 256 → v < 256
    → (v ≡ byte_at bytes i → ⊥) → block_sound due (set bytes i v) ≡ false
unfolding block_sound
changed-refused due bytes i v sound place old new other =
    by (eqb due 0)
    (λ t. pick t (window_block bytes) (claim_block due bytes) ≡ true → pick t (window_block (set bytes i v)) (claim_block due (set bytes i v)) ≡ false)
    (λ e s. window-is (set bytes i v) (framed-changed 0 bytes i v place old new other (window-block bytes s).framed-so) refl refl)
    (λ e s. claims-are due (set bytes i v) (framed-changed due bytes i v place old new other (claim-block due bytes s).framed-so) refl refl refl)
    sound
