-- What a block's tests come to, from what their parts come to, and what a sound block has.
-- Assumes nothing.
use Prim.Native.Nat.{ℕ, ◌+◌, ◌-◌, ◌*◌, ◌%◌, ◌≤◌}
use mathlib.Core.Path.{◌≡◌}
use mathlib.Core.Bool.{Bool, true, false, ◌&&◌, and-false, and-eq-true_iff}
use mathlib.Core.List.{List}
use lib.ListN.{length}
use lib.Dec.{eqb, leb}
use borrow.Author.Tests.{eqb-true, leb-true}
use Rattle.basics.proofs.Tests.{tests}
use Rattle.claim_file.specs.Bytes.{two_at, zero_from}
use Rattle.claim_file.specs.Block.{block_number, claim_count, check_sum, check_number, claims_padded, framed, window_block, claim_block}

module _ (due : ℕ) (bytes : List ℕ) where
  pub framed_is : {l n k z : Bool}
      → eqb (length bytes) 512 ≡ l
      → eqb (two_at bytes 0) due ≡ n
      → eqb (check_sum bytes 510 % 65521) (two_at bytes 510) ≡ k
      → zero_from bytes 3 13 ≡ z
      → framed due bytes ≡ (l && n && k && z)
  unfolding framed block_number check_number
  framed_is l n k z = λ i. l i && n i && k i && z i

  pub check-decides : eqb (check_sum bytes 510 % 65521) (two_at bytes 510) ≡ false → framed due bytes ≡ false
  unfolding framed block_number check_number
  check-decides e = simp (e, and-false)

  pub claims-are : {f l p z : Bool}
      → framed due bytes ≡ f
      → leb (claim_count bytes) 15 ≡ l
      → claims_padded bytes (claim_count bytes) ≡ p
      → zero_from bytes (16 + 32 * claim_count bytes) (494 - 32 * claim_count bytes) ≡ z
      → claim_block due bytes ≡ (f && l && p && z)
  unfolding claim_block
  claims-are f l p z = λ i. f i && l i && p i && z i

  pub framed-length : framed due bytes ≡ true → length bytes ≡ 512
  unfolding framed
  framed-length h = let t = simp and-eq-true_iff at h in omega tests

  pub framed-number : framed due bytes ≡ true → two_at bytes 0 ≡ due
  unfolding framed block_number
  framed-number h = let t = simp and-eq-true_iff at h in eqb-true _ _ t.0.0.1

  -- a claim block, as facts
  pub record ClaimBlock : Type 0 where
    pub framed-so : framed due bytes ≡ true
    pub length-so : length bytes ≡ 512
    pub count_so : claim_count bytes ≤ 15
    pub padded-so : claims_padded bytes (claim_count bytes) ≡ true
    pub rest-so : zero_from bytes (16 + 32 * claim_count bytes) (494 - 32 * claim_count bytes) ≡ true

  pub claim-block : claim_block due bytes ≡ true → ClaimBlock
  unfolding claim_block
  claim-block h =
      let t = simp and-eq-true_iff at h in
      record {
        framed-so = t.0.0.0;
        length-so = framed-length t.0.0.0;
        count_so = leb-true _ _ t.0.0.1;
        padded-so = t.0.1;
        rest-so = t.1;
      }

pub window-is : (bytes : List ℕ) {f c z : Bool}
    → framed 0 bytes ≡ f
    → eqb (claim_count bytes) 0 ≡ c
    → zero_from bytes 24 486 ≡ z
    → window_block bytes ≡ (f && c && z)
unfolding window_block
window-is bytes f c z = λ i. f i && c i && z i

-- block 0, as facts
pub record WindowBlock (bytes : List ℕ) : Type 0 where
  pub framed-so : framed 0 bytes ≡ true
  pub length-so : length bytes ≡ 512
  pub count_so : claim_count bytes ≡ 0
  pub rest-so : zero_from bytes 24 486 ≡ true

pub window-block : (bytes : List ℕ) → window_block bytes ≡ true → WindowBlock bytes
unfolding window_block
window-block bytes h =
    let t = simp and-eq-true_iff at h in
    record { framed-so = t.0.0; length-so = framed-length 0 bytes t.0.0; count_so = eqb-true _ _ t.0.1; rest-so = t.1 }

pub claim_block-length : (due : ℕ) (bytes : List ℕ) → claim_block due bytes ≡ true → length bytes ≡ 512
claim_block-length due bytes h = (claim-block due bytes h).length-so

pub window_block-length : (bytes : List ℕ) → window_block bytes ≡ true → length bytes ≡ 512
window_block-length bytes h = (window-block bytes h).length-so

pub claim_high : (due : ℕ) (bytes : List ℕ) → claim_block due bytes ≡ true → claim_count bytes ≤ 15
claim_high due bytes h = (claim-block due bytes h).count_so

-- a sound block has 512 bytes, and up to 15 claims
pub ruleset block_size = (framed-length, claim_block-length, window_block-length, claim_high)
