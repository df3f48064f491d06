-- The records of a claim list, one after the other: what stands at a place, and what is left after it.
-- Assumes nothing.
use Prim.Native.Nat.{ℕ, zero, suc, ◌+◌, ◌-◌, ◌*◌, ◌/◌, ◌%◌, ◌<◌, ◌≤◌}
use mathlib.Core.Path.{◌≡◌, refl, sym, ap, ◌∙◌}
use mathlib.Core.Bool.{Bool, true, ◌&&◌}
use mathlib.Core.List.{List, [], ◌∷◌}
use native.Mathlib.Nat.{sub-zero}
use native.Mathlib.Numerals.{add-one}
use borrow.Author.Tests.{le-leb}
use lib.Dec.{eqb}
use lib.ListN.{length}
use Rattle.basics.specs.Pick.{pick}
use Rattle.basics.proofs.Tests.{tests, by, and_right}
use Rattle.claim_months.specs.declared.Claim.{Claim}
use Rattle.claim_file.specs.Record.{claim_from, record_padded}
use Rattle.claim_file.specs.BlockAnswers.{record_in}
use Rattle.small_company.specs.SmallCompany.{claims_from_record, listed_claims, padded_from, list_sound}
use Rattle.std.specs.Prelude.{None, Some, Option, is_some}
use Rattle.std.specs.List.{range_with_len, list_all}

-- how many records, and the claims and the zero bytes from a record on
abbrev pub records : List ℕ → ℕ
records bytes = length bytes / 32

abbrev pub claims_left : List ℕ → ℕ → List Claim
claims_left bytes k = claims_from_record bytes k (records bytes - k)

abbrev pub padded_left : List ℕ → ℕ → Bool
padded_left bytes k = padded_from bytes k (records bytes - k)

-- all of them stand from the first record on
pub claims-all : (bytes : List ℕ) → listed_claims bytes ≡ claims_left bytes 0
unfolding listed_claims
claims-all bytes = ap (claims_from_record bytes 0) (sym (sub-zero (records bytes)))

pub padded-all : (bytes : List ℕ) → padded_from bytes 0 (records bytes) ≡ padded_left bytes 0
padded-all bytes = ap (padded_from bytes 0) (sym (sub-zero (records bytes)))

-- past the last one nothing is left
module _ (bytes : List ℕ) (k : ℕ) (h : records bytes ≤ k) where
  none_left : records bytes - k ≡ 0
  none_left = omega tests

  pub claims-end : claims_left bytes k ≡ []
  unfolding claims_from_record
  claims-end = ap (claims_from_record bytes k) none_left

module _ (bytes : List ℕ) (k : ℕ) (h : k < records bytes) where
  one_less : records bytes - k ≡ suc (records bytes - (k + 1))
  one_less = omega tests

  -- record k stands before the others
  pub claims-at : claims_left bytes k ≡ claim_from bytes (32 * k) ∷ claims_left bytes (k + 1)
  unfolding claims_from_record
  claims-at =
      ap (claims_from_record bytes k) one_less
      ∙ ap (λ (j : ℕ). claim_from bytes (32 * k) ∷ claims_from_record bytes j (records bytes - (k + 1))) (sym (add-one k))

  pub padded-at : padded_left bytes k ≡ (record_padded bytes (32 * k) && padded_left bytes (k + 1))
  unfolding padded_from
  padded-at =
      ap (padded_from bytes k) one_less
      ∙ ap (λ (j : ℕ). record_padded bytes (32 * k) && padded_from bytes j (records bytes - (k + 1))) (sym (add-one k))

  -- reading it: the list has its 32 bytes, so that its zero bytes decide
  read_at : record_in bytes (32 * k) ≡ pick (record_padded bytes (32 * k)) (Some (claim_from bytes (32 * k))) None
  unfolding record_in
  read_at = rw (le-leb (32 * k + 32) (length bytes) (omega tests))

  module _ (z : record_padded bytes (32 * k) ≡ true) where
    has-record : record_in bytes (32 * k) ≡ Some (claim_from bytes (32 * k))
    has-record = rw z at read_at

    pub record-there : is_some (record_in bytes (32 * k)) ≡ true
    record-there = ap (λ (o : Option Claim). is_some o) has-record

    pub its-claim : (c : Claim) → record_in bytes (32 * k) ≡ Some c → c ≡ claim_from bytes (32 * k)
    its-claim c e = cc (e, has-record)

-- the n records from record k on are all read where their zero bytes are zero
pub all-read : (bytes : List ℕ) (k n : ℕ) → 32 * (k + n) ≤ length bytes
    → list_all (λ i. is_some (record_in bytes (32 * i))) (range_with_len k n) ≡ padded_from bytes k n
unfolding padded_from
all-read bytes k zero h = refl
all-read bytes k (suc n) h =
    let here : is_some (record_in bytes (32 * k)) ≡ record_padded bytes (32 * k)
    = ap (λ (o : Option Claim). is_some o) (read_at bytes k (omega tests))
    ∙ by (record_padded bytes (32 * k)) (λ t. is_some (pick t (Some (claim_from bytes (32 * k))) None) ≡ t) (λ q. refl) (λ q. refl) in
    rw (here, all-read bytes (k + 1) n (omega tests), add-one k)

-- the zero bytes of a sound list
pub list-padded : (bytes : List ℕ) → list_sound bytes ≡ true → padded_left bytes 0 ≡ true
unfolding list_sound
list-padded bytes h = sym (padded-all bytes) ∙ and_right (eqb (length bytes % 32) 0) (padded_from bytes 0 (records bytes)) h
