-- Reading a claim block: the list of its claims with zeros in the places past them, and what a reading is as its test comes out.
-- Assumes nothing.
use Prim.Native.Nat.{ℕ, zero, suc, ◌+◌, ◌*◌, ◌≤◌, ◌<◌}
use mathlib.Core.Path.{◌≡◌, refl, sym, ap, ◌∙◌}
use mathlib.Core.Bool.{Bool, true, false, ◌&&◌, and-false}
use mathlib.Core.List.{List, []}
use native.Mathlib.Omega.{arith}
use native.Mathlib.Nat.{not-suc-le-zero, le_of_suc-le-suc}
use lib.ListN.{length, get_or, set, replicate, length-set, get_or-replicate}
use lib.Seq.{ext_get_or, get_or-set_same, get_or-set_other}
use lib.Dec.{leb, eqb}
use borrow.Author.Tests.{ne_eqb, le-leb, lt-leb, eqb-true, eqb-false}
use Rattle.basics.specs.Pick.{pick}
use Rattle.basics.specs.Checks.{refuse_block}
use Rattle.basics.proofs.Tests.{by, tests, and_right}
use Rattle.claim_months.specs.declared.Claim.{Claim}
use Rattle.claim_file.specs.BlockAnswers.{BlockRead}
use Rattle.claim_file.specs.Bytes.{date_from}
use Rattle.claim_file.specs.Block.{claim_count, block_claim, window_block, claim_block, block_sound}
use Rattle.claim_file.specs.BlockAnswers.{no_claim, claims_in, record_in, read_of, window_of}
use Rattle.claim_file.proofs.BlockTests.{claim-block}
use Rattle.claim_file.proofs.BlockTrips.{padded-at}
use Rattle.claim_file.proofs.RecordParts.{record-found}
use Rattle.std.specs.Prelude.{Ok, Some}

-- what stands in place k when the first n claims have been read
abbrev pub placed : List ℕ → ℕ → ℕ → Claim
placed bytes n k = pick (leb (suc k) n) (block_claim bytes k) no_claim

-- the places, with the first n claims read
abbrev pub Placed : List ℕ → ℕ → List Claim → Type 0
Placed bytes n claims = (length claims ≡ 15) × ((k : ℕ) → k < 15 → get_or claims k no_claim ≡ placed bytes n k)

pub placed-none : (bytes : List ℕ) (c : Claim) → c ≡ no_claim → Placed bytes 0 (replicate 15 c)
placed-none bytes c e = (
  refl,
  λ k h.
      ap (λ (d : Claim). get_or (replicate 15 d) k no_claim) e
      ∙ get_or-replicate 15 k no_claim no_claim h
      ∙ sym (ap (λ (t : Bool). pick t (block_claim bytes k) no_claim) (lt-leb (suc k) 0 (omega arith))),
)

pub length-in : (bytes : List ℕ) (k n : ℕ) → length (claims_in bytes k n) ≡ n
unfolding claims_in
length-in bytes k zero = refl
length-in bytes k (suc n) = ap suc (length-in bytes (suc k) n)

in_place : (bytes : List ℕ) (k n i : ℕ) → i < n → get_or (claims_in bytes k n) i no_claim ≡ placed bytes (claim_count bytes) (k + i)
unfolding claims_in
in_place bytes k zero i h = absurd (not-suc-le-zero h)
in_place bytes k (suc n) zero h = let e : k ≡ k + 0 = omega arith in ap (placed bytes (claim_count bytes)) e
in_place bytes k (suc n) (suc i) h =
    let e : suc k + i ≡ k + suc i = omega arith in
    in_place bytes (suc k) n i (le_of_suc-le-suc h) ∙ ap (placed bytes (claim_count bytes)) e

pub at_place : (bytes : List ℕ) (i : ℕ) → i < 15 → get_or (claims_in bytes 0 15) i no_claim ≡ placed bytes (claim_count bytes) i
at_place bytes i h = let e : 0 + i ≡ i = omega arith in in_place bytes 0 15 i h ∙ ap (placed bytes (claim_count bytes)) e

leb-same : (a b c d : ℕ) → (a ≤ b → c ≤ d) → (c ≤ d → a ≤ b) → leb a b ≡ leb c d
leb-same a b c d f g =
    by (leb a b) (λ t. t ≡ leb c d)
    (λ e. let h : a ≤ b = omega tests in sym (le-leb c d (f h)))
    (λ e. by (leb c d) (λ t. false ≡ t) (λ q. let k = g (omega tests) in absurd (omega tests)) (λ q. refl))

pub placed-more : (bytes : List ℕ) (n : ℕ) (claims : List Claim) (c : Claim) → n < 15 → c ≡ block_claim bytes n → Placed bytes n claims
    → Placed bytes (n + 1) (set claims n c)
placed-more bytes n claims c h v p = (
  length-set claims n c ∙ p.0,
  λ k l.
      by (eqb k n) (λ _. get_or (set claims n c) k no_claim ≡ placed bytes (n + 1) k)
      (λ e.
      let q : k ≡ n = eqb-true k n e in
      ap (λ (j : ℕ). get_or (set claims n c) j no_claim) q
      ∙ get_or-set_same claims n c no_claim (omega arith)
      ∙ v
      ∙ sym (ap (block_claim bytes) q)
      ∙ sym (ap (λ (t : Bool). pick t (block_claim bytes k) no_claim) (le-leb (suc k) (n + 1) (omega arith))))
      (λ e.
      let q : k ≡ n → ⊥ = eqb-false k n e in
      get_or-set_other claims n k c no_claim q
      ∙ p.1 k l
      ∙ ap (λ (t : Bool). pick t (block_claim bytes k) no_claim) (leb-same (suc k) n (suc k) (n + 1) (λ a. omega arith) (λ a. omega arith))),
)

pub placed-all : (bytes : List ℕ) (claims : List Claim) → Placed bytes (claim_count bytes) claims → claims ≡ claims_in bytes 0 15
placed-all bytes claims p =
    ext_get_or no_claim claims (claims_in bytes 0 15) (p.0 ∙ sym (length-in bytes 0 15))
    (λ i h. let l : i < 15 = omega (arith, p.0) in p.1 i l ∙ sym (at_place bytes i l))

-- a refused reading is that of the number 0
pub read-refused : (due : ℕ) (bytes : List ℕ) → claim_block due bytes ≡ false → read_of 0 [] ≡ read_of due bytes
unfolding read_of
read-refused due bytes e = rw (e, and-false (leb 1 due))

pub read_known : (due : ℕ) (bytes : List ℕ) (claims : List Claim) → (due ≡ 0 → ⊥) → claim_block due bytes ≡ true → claims ≡ claims_in bytes 0 15
    → record { refused = 0; block = record { count = claim_count bytes; claims = claims } } ≡ read_of due bytes
unfolding read_of
read_known due bytes claims n e q = rw (q, e, le-leb 1 due (omega arith))

-- a reading has at most fifteen claims
pub read_count : (due : ℕ) (bytes : List ℕ) → (read_of due bytes).block.count ≤ 15
unfolding read_of
read_count due bytes =
    by (leb 1 due && claim_block due bytes)
    (λ t.
    (pick {A = BlockRead} t (record { refused = 0; block = record { count = claim_count bytes; claims = claims_in bytes 0 15 } })
    (record { refused = refuse_block; block = record { count = 0; claims = claims_in [] 0 15 } })).block.count
    ≤ 15)
    (λ e. (claim-block due bytes (and_right (leb 1 due) (claim_block due bytes) e)).count_so) (λ e. omega arith)

pub window-known : (bytes : List ℕ) → window_block bytes ≡ true
    → Ok (record { first = date_from bytes 16; last = date_from bytes 20 }) ≡ window_of bytes
unfolding window_of
window-known bytes e = rw e

-- each record of a sound block of claims is read
pub sound-record : (due : ℕ) (bytes : List ℕ) → 1 ≤ due → block_sound due bytes ≡ true → (k : ℕ) → k < claim_count bytes
    → Some (block_claim bytes k) ≡ record_in bytes (16 + 32 * k)
unfolding block_sound block_claim
sound-record due bytes low h k l =
    let b = claim-block due bytes (rw (ne_eqb due 0 (λ (z : due ≡ 0). omega tests)) at h) in
    record-found bytes (16 + 32 * k) (le-leb (16 + 32 * k + 32) (length bytes) (omega (tests, b.length-so, b.count_so)))
    (padded-at bytes (claim_count bytes) k b.padded-so l)
