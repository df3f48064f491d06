-- A written block reads back to the list of its claims, and so do the records of its claims.
-- Assumes nothing.
use Prim.Native.Nat.{ℕ, zero, suc, ◌+◌, ◌*◌, ◌≤◌, ◌<◌}
use mathlib.Core.Path.{◌≡◌, refl, sym, ap, ◌∙◌}
use mathlib.Core.Bool.{true, ◌&&◌}
use mathlib.Core.List.{List, [], ◌∷◌, ◌++◌, append-nil}
use native.Mathlib.Omega.{arith}
use native.Mathlib.Nat.{not-suc-le-zero}
use lib.ListN.{length, get_or, take, drop, drop_of_length-le}
use lib.Seq.{drop-cons}
use borrow.Author.Tests.{ne_eqb, le-leb}
use Rattle.std.specs.Prelude.{Some, None}
use Rattle.basics.specs.Pick.{pick}
use Rattle.claim_months.specs.declared.Claim.{Claim}
use Rattle.claim_file.specs.Bytes.{zero_from}
use Rattle.claim_file.specs.Record.{claim_from, claim_bytes, all_claim_bytes, record_padded}
use Rattle.claim_file.specs.Block.{block_claim, claim_count, block_sound, bytes_of_block}
use Rattle.claim_file.specs.BlockAnswers.{no_claim, claims_in, record_in, read_of}
use Rattle.claim_file.specs.Files.{claims_of_block}
use Rattle.claim_file.specs.RoundTrip.{ClaimFits}
use Rattle.claim_file.proofs.BlockTrips.{claim-back, claim-padded, drop_all, written_count, written-sound, written-claim}
use Rattle.claim_file.proofs.ByteStores.{length-all}
use Rattle.claim_file.proofs.Reading.{read_known}
use Rattle.claim_file.proofs.Runs.{sound}
use Rattle.claim_file.proofs.Split.{claim-drop, zero-drop}

-- the first claims of fifteen places
pub first-claims : (bytes : List ℕ) (n m k : ℕ) → n ≤ m → k + n ≤ claim_count bytes → take n (claims_in bytes k m) ≡ claims_of_block bytes k n
unfolding claims_in claims_of_block
first-claims bytes zero m k h l = refl
first-claims bytes (suc n) zero k h l = absurd (not-suc-le-zero h)
first-claims bytes (suc n) (suc m) k h l =
    λ i.
    pick (le-leb (suc k) (claim_count bytes) (omega arith) i) (block_claim bytes k) no_claim
    ∷ first-claims bytes n m (suc k) (omega arith) (omega arith) i

-- the record at a place of some claims' records
record-at : (cs : List Claim) (k : ℕ) → k < length cs → drop (32 * k) (all_claim_bytes cs) ≡ claim_bytes (get_or cs k no_claim) ++ all_claim_bytes (drop (suc k) cs)
unfolding all_claim_bytes
record-at cs k h =
    ap (drop (32 * k)) (sym (append-nil (all_claim_bytes cs)))
    ∙ drop_all cs k [] (omega arith)
    ∙ append-nil (all_claim_bytes (drop k cs))
    ∙ ap all_claim_bytes (drop-cons cs k no_claim h)

module _ (n : ℕ) (cs : List Claim) (few : length cs ≤ 15) where
  pub block-sound : 1 ≤ n → n ≤ 65535 → block_sound n (bytes_of_block n cs) ≡ true
  unfolding block_sound
  block-sound l h = rw (ne_eqb n 0 (λ e. omega arith)) (written-sound n cs few h)

  pub block-length : 1 ≤ n → n ≤ 65535 → length (bytes_of_block n cs) ≡ 512
  block-length l h = (sound n (bytes_of_block n cs) (block-sound l h)).length-so

  from_place : ((k : ℕ) → k < length cs → ClaimFits (get_or cs k no_claim)) → (m k : ℕ) → k + m ≡ length cs → claims_of_block (bytes_of_block n cs) k m ≡ drop k cs
  unfolding claims_of_block
  from_place f zero k e = sym (drop_of_length-le cs {i = k} (omega arith))
  from_place f (suc m) k e =
      (λ i. written-claim n cs few k no_claim (omega arith) (f k (omega arith)) i ∷ from_place f m (suc k) (omega arith) i)
      ∙ sym (drop-cons cs k no_claim (omega arith))

  pub block-claims : ((k : ℕ) → k < length cs → ClaimFits (get_or cs k no_claim)) → claims_of_block (bytes_of_block n cs) 0 (claim_count (bytes_of_block n cs)) ≡ cs
  block-claims f = ap (claims_of_block (bytes_of_block n cs) 0) (written_count n cs few) ∙ from_place f (length cs) 0 (omega arith)

  pub block_count : claim_count (bytes_of_block n cs) ≡ length cs
  block_count = written_count n cs few

  -- as it is read: the count, and the claims in their places
  pub block_read : 1 ≤ n → n ≤ 65535
      → read_of n (bytes_of_block n cs) ≡ record { refused = 0; block = record { count = length cs; claims = claims_in (bytes_of_block n cs) 0 15 } }
  block_read l h =
      sym (read_known n (bytes_of_block n cs) (claims_in (bytes_of_block n cs) 0 15) (λ z. omega arith) (written-sound n cs few h) refl)
      ∙ (λ i. record { refused = 0; block = record { count = block_count i; claims = claims_in (bytes_of_block n cs) 0 15 } })

  module _ (f : (k : ℕ) → k < length cs → ClaimFits (get_or cs k no_claim)) where
    pub first-read : take (length cs) (claims_in (bytes_of_block n cs) 0 15) ≡ cs
    first-read =
        let e = block_count in
        first-claims (bytes_of_block n cs) (length cs) 15 0 few (omega arith) ∙ from_place f (length cs) 0 (omega arith)

    -- the record of the claim at a place
    pub record-back : (k : ℕ) → k < length cs → Some (block_claim (bytes_of_block n cs) k) ≡ record_in (all_claim_bytes cs) (32 * k)
    unfolding record_in record_padded
    record-back k h =
        let bytes = all_claim_bytes cs in
        let i = 32 * k in
        let c = get_or cs k no_claim in
        let rest = all_claim_bytes (drop (suc k) cs) in
        let cut : drop i bytes ≡ claim_bytes c ++ rest = record-at cs k h in
        let long = le-leb (i + 32) (length bytes) (omega (arith, length-all cs)) in
        let padded = zero-drop bytes i 7 (i + 25) 25 refl ∙ ap (λ (r : List ℕ). zero_from r 25 7) cut ∙ claim-padded c rest in
        let claim = claim-drop bytes i ∙ ap (λ (r : List ℕ). claim_from r 0) cut ∙ claim-back c rest (f k h) in
        sym ((λ j. pick (long j && padded j) (Some (claim j)) None) ∙ ap Some (sym (written-claim n cs few k no_claim h (f k h))))
