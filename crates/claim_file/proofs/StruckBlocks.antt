-- Blocks written from records that stand in file order are sound and read back to these records, and records kept of such a file stand in it so.
-- Assumes nothing.
use Prim.Native.Nat.{ℕ, zero, suc, ◌+◌, ◌*◌, ◌≤◌, ◌<◌}
use mathlib.Core.Path.{◌≡◌, refl, sym, ap, ◌∙◌}
use mathlib.Core.Bool.{true}
use mathlib.Core.List.{List, [], ◌∷◌, ◌++◌, append-nil}
use native.Mathlib.Omega.{arith}
use native.Mathlib.Nat.{not-suc-le-zero}
use lib.ListN.{length, take, drop, get_or, length-append, length-take, drop_of_length-le, get_or-eq_default}
use lib.Seq.{take_at, drop_at, get_or-take, get_or-drop, drop-cons}
use lib.Dec.{ltb, eqb}
use borrow.Author.Tests.{eq-eqb, ne_eqb}
use Rattle.basics.specs.Pick.{pick}
use Rattle.basics.proofs.Tests.{by, tests}
use Rattle.claim_months.specs.declared.Claim.{Claim}
use Rattle.claim_file.specs.Bytes.{byte_at, two_at, four_at, date_from}
use Rattle.claim_file.specs.Record.{claim_from}
use Rattle.claim_file.specs.Block.{block_claim, claim_count, claim_block, block_sound, bytes_of_block}
use Rattle.claim_file.specs.BlockAnswers.{no_claim}
use Rattle.claim_file.specs.RoundTrip.{DateFits, ClaimFits, AreBytes}
use Rattle.claim_file.specs.Corrections.{PlacedClaim, records_of_block, records_of_blocks, claims_of, blocks_of, sound_blocks, has_number, last_ones, in_block, struck_blocks}
use Rattle.claim_file.proofs.BlockTests.{claim-block}
use Rattle.claim_file.proofs.BlockTrips.{written_count, written-sound, written-claim}
use Rattle.claim_file.proofs.Runs.{sound, sound-due}
use Rattle.claim_file.proofs.BlockZero.{sound-first}

-- what is read from bytes fits the fields' widths
module _ (bytes : List ℕ) (small : AreBytes bytes) where
  date-small : (i : ℕ) → DateFits (date_from bytes i)
  unfolding date_from two_at byte_at
  date-small i = record { year_fits = omega (arith, small i, small (i + 1)); month_fits = small (i + 2); day_fits = small (i + 3) }

  claim-small : (i : ℕ) → ClaimFits (claim_from bytes i)
  unfolding claim_from four_at two_at byte_at
  claim-small i =
      record {
        number_fits = omega (arith, small i, small (i + 1), small (i + 2), small (i + 2 + 1));
        disability_fits = date-small (i + 4);
        bcd_fits = date-small (i + 8);
        termination_fits = date-small (i + 12);
        maximum_fits = date-small (i + 16);
        status_fits = small (i + 20);
        code_fits = small (i + 21);
        cell_fits = omega (arith, small (i + 22), small (i + 22 + 1));
      }

-- the records of one block
abbrev pub Of : ℕ → List PlacedClaim → Type 0
Of b [] = Unit {0}
Of b (r ∷ rs) = (r.block ≡ b) × ClaimFits r.claim × Of b rs

-- which has at most fifteen and a number of two bytes
pub record BlockOf (b : ℕ) (rs : List PlacedClaim) : Type 0 where
  pub all_of : Of b rs
  pub few : length rs ≤ 15
  pub high : b ≤ 65535

-- records that stand in n such blocks from number b on, in order
abbrev pub Laid : ℕ → ℕ → List PlacedClaim → Type 0
Laid b zero rs = rs ≡ []
Laid b (suc n) rs = (here : List PlacedClaim) × (later : List PlacedClaim) × (rs ≡ here ++ later) × BlockOf b here × Laid (suc b) n later

-- 1. The records of sound blocks are laid so.
take-small : (bytes : List ℕ) → AreBytes bytes → AreBytes (take 512 bytes)
take-small bytes small = λ i.
    by (ltb i 512) (λ _. get_or (take 512 bytes) i 0 < 256)
    (λ t. let e = get_or-take 512 bytes i 0 (omega tests) in omega (arith, small i))
    (λ t. let l = length-take 512 bytes in let e = get_or-eq_default (take 512 bytes) 0 {n = i} (omega tests) in omega arith)

pub drop-small : (bytes : List ℕ) → AreBytes bytes → AreBytes (drop 512 bytes)
drop-small bytes small = λ i. let e = get_or-drop 512 bytes i 0 in omega (arith, small (512 + i))

block_of : (bytes : List ℕ) → AreBytes bytes → (b n k : ℕ) → Of b (records_of_block bytes b k n)
unfolding records_of_block block_claim
block_of bytes small b zero k = tt
block_of bytes small b (suc n) k = (refl, claim-small bytes small (16 + 32 * k), block_of bytes small b n (suc k))

length-block : (bytes : List ℕ) (b n k : ℕ) → length (records_of_block bytes b k n) ≡ n
unfolding records_of_block
length-block bytes b zero k = refl
length-block bytes b (suc n) k = ap suc (length-block bytes b n (suc k))

pub records-laid : (n b : ℕ) (bytes : List ℕ) → AreBytes bytes → sound_blocks b bytes n ≡ n → Laid b n (records_of_blocks bytes b n)
unfolding records_of_blocks byte_at
records-laid zero b bytes small h = refl
records-laid (suc n) b bytes small h =
    let q = sound-first b bytes n h in
    let first = take 512 bytes in
    let s = sound b first q.0 in
    let t = take-small bytes small in
    let l = length-block first b (claim_count first) 0 in
    let d = sound-due b first s (t 0) (t 1) in (
      records_of_block first b 0 (claim_count first),
      records_of_blocks (drop 512 bytes) (suc b) n,
      refl,
      record { all_of = block_of first t b (claim_count first) 0; few = omega (arith, s.count_so); high = omega arith },
      records-laid n (suc b) (drop 512 bytes) (drop-small bytes small) q.1,
    )

-- 2. The last ones of records laid so are laid so. Of some records, those whose numbers stand neither later among them nor in others behind them
strike : List PlacedClaim → List PlacedClaim → List PlacedClaim
strike [] later = []
strike (r ∷ rs) later = pick (has_number r.claim.number (rs ++ later)) (strike rs later) (r ∷ strike rs later)

last-append : (xs ys : List PlacedClaim) → last_ones (xs ++ ys) ≡ strike xs ys ++ last_ones ys
unfolding last_ones strike
last-append [] ys = refl
last-append (x ∷ xs) ys =
    by (has_number x.claim.number (xs ++ ys))
    (λ t. pick t (last_ones (xs ++ ys)) (x ∷ last_ones (xs ++ ys)) ≡ pick t (strike xs ys) (x ∷ strike xs ys) ++ last_ones ys)
    (λ e. last-append xs ys) (λ e. ap (λ (rs : List PlacedClaim). x ∷ rs) (last-append xs ys))

strike-of : (b : ℕ) (xs ys : List PlacedClaim) → Of b xs → Of b (strike xs ys)
unfolding strike
strike-of b [] ys o = tt
strike-of b (x ∷ xs) ys o =
    by (has_number x.claim.number (xs ++ ys)) (λ t. Of b (pick t (strike xs ys) (x ∷ strike xs ys)))
    (λ e. strike-of b xs ys o.2) (λ e. (o.0, o.1, strike-of b xs ys o.2))

strike-few : (xs ys : List PlacedClaim) → length (strike xs ys) ≤ length xs
unfolding strike
strike-few [] ys = omega arith
strike-few (x ∷ xs) ys =
    let h = strike-few xs ys in
    by (has_number x.claim.number (xs ++ ys)) (λ t. length (pick t (strike xs ys) (x ∷ strike xs ys)) ≤ suc (length xs))
    (λ e. omega arith) (λ e. omega arith)

pub last-laid : (n b : ℕ) (rs : List PlacedClaim) → Laid b n rs → Laid b n (last_ones rs)
unfolding last_ones
last-laid zero b rs h = ap last_ones h
last-laid (suc n) b rs h = (
  strike h.0 h.1,
  last_ones h.1,
  ap last_ones h.2 ∙ last-append h.0 h.1,
  record {
    all_of = strike-of b h.0 h.1 h.3.all_of;
    few = omega (arith, strike-few h.0 h.1, h.3.few);
    high = h.3.high;
  },
  last-laid n (suc b) h.1 h.4,
)

-- 3. The claims of one block among records laid so
in-append : (b : ℕ) (xs ys : List PlacedClaim) → in_block b (xs ++ ys) ≡ in_block b xs ++ in_block b ys
unfolding in_block
in-append b [] ys = refl
in-append b (x ∷ xs) ys =
    by (eqb x.block b) (λ t. pick t (x.claim ∷ in_block b (xs ++ ys)) (in_block b (xs ++ ys)) ≡ pick t (x.claim ∷ in_block b xs) (in_block b xs) ++ in_block b ys)
    (λ e. ap (λ (cs : List Claim). x.claim ∷ cs) (in-append b xs ys)) (λ e. in-append b xs ys)

in-of : (b : ℕ) (xs : List PlacedClaim) → Of b xs → in_block b xs ≡ claims_of xs
unfolding in_block claims_of
in-of b [] o = refl
in-of b (x ∷ xs) o = rw (eq-eqb x.block b o.0) (ap (λ (cs : List Claim). x.claim ∷ cs) (in-of b xs o.2))

in-other : (b c : ℕ) (xs : List PlacedClaim) → Of c xs → (c ≡ b → ⊥) → in_block b xs ≡ []
unfolding in_block
in-other b c [] o h = refl
in-other b c (x ∷ xs) o h = rw (ne_eqb x.block b (λ (q : x.block ≡ b). h (sym o.0 ∙ q))) (in-other b c xs o.2 h)

in-later : (n b c : ℕ) (rs : List PlacedClaim) → Laid c n rs → b < c → in_block b rs ≡ []
unfolding in_block
in-later zero b c rs h l = ap (in_block b) h
in-later (suc n) b c rs h l =
    let p = in-other b c h.0 h.3.all_of (λ (q : c ≡ b). omega arith) in
    let q = in-later n b (suc c) h.1 h.4 (omega arith) in
    ap (in_block b) h.2 ∙ in-append b h.0 h.1 ∙ (λ i. p i ++ q i)

struck-same : (n c : ℕ) (xs ys : List PlacedClaim) → ((d : ℕ) → c ≤ d → in_block d xs ≡ in_block d ys) → struck_blocks xs c n ≡ struck_blocks ys c n
unfolding struck_blocks
struck-same zero c xs ys h = refl
struck-same (suc n) c xs ys h =
    λ i. bytes_of_block c (h c (omega arith) i) ++ struck-same n (suc c) xs ys (λ d l. h d (omega arith)) i

-- 4. One block of them, written and read
length-claims : (rs : List PlacedClaim) → length (claims_of rs) ≡ length rs
unfolding claims_of
length-claims [] = refl
length-claims (r ∷ rs) = ap suc (length-claims rs)

fits-at : (b : ℕ) (rs : List PlacedClaim) → Of b rs → (k : ℕ) → k < length (claims_of rs) → ClaimFits (get_or (claims_of rs) k no_claim)
unfolding claims_of
fits-at b [] o k h = absurd (not-suc-le-zero h)
fits-at b (r ∷ rs) o zero h = o.1
fits-at b (r ∷ rs) o (suc k) h = fits-at b rs o.2 k (omega arith)

claims-from : (bytes : List ℕ) (b : ℕ) (cs : List Claim) → ((k : ℕ) → k < length cs → block_claim bytes k ≡ get_or cs k no_claim)
    → (n k : ℕ) → k + n ≡ length cs → claims_of (records_of_block bytes b k n) ≡ drop k cs
unfolding claims_of records_of_block
claims-from bytes b cs h zero k e = sym (drop_of_length-le cs {i = k} (omega arith))
claims-from bytes b cs h (suc n) k e =
    (λ i. h k (omega arith) i ∷ claims-from bytes b cs h n (suc k) (omega arith) i) ∙ sym (drop-cons cs k no_claim (omega arith))

blocks_from : (bytes : List ℕ) (b : ℕ) (rs : List PlacedClaim) (k : ℕ) → Of b rs → blocks_of (records_of_block bytes b k (length rs)) ≡ blocks_of rs
unfolding blocks_of records_of_block
blocks_from bytes b [] k o = refl
blocks_from bytes b (r ∷ rs) k o = λ i. sym o.0 i ∷ blocks_from bytes b rs (suc k) o.2 i

claims-append : (xs ys : List PlacedClaim) → claims_of (xs ++ ys) ≡ claims_of xs ++ claims_of ys
unfolding claims_of
claims-append [] ys = refl
claims-append (x ∷ xs) ys = ap (λ (cs : List Claim). x.claim ∷ cs) (claims-append xs ys)

blocks-append : (xs ys : List PlacedClaim) → blocks_of (xs ++ ys) ≡ blocks_of xs ++ blocks_of ys
unfolding blocks_of
blocks-append [] ys = refl
blocks-append (x ∷ xs) ys = ap (λ (bs : List ℕ). x.block ∷ bs) (blocks-append xs ys)

module _ (b : ℕ) (here : List PlacedClaim) (o : BlockOf b here) where
  abbrev written : List ℕ
  written = bytes_of_block b (claims_of here)

  few-claims : length (claims_of here) ≤ 15
  few-claims = omega (arith, length-claims here, o.few)

  written-so : claim_block b written ≡ true
  written-so = written-sound b (claims_of here) few-claims o.high

  written-length : length written ≡ 512
  written-length = (claim-block b written written-so).length-so

  block-so : 1 ≤ b → block_sound b written ≡ true
  unfolding block_sound
  block-so low = rw (ne_eqb b 0 (λ (q : b ≡ 0). omega arith)) written-so

  count_so : claim_count written ≡ length here
  count_so = written_count b (claims_of here) few-claims ∙ length-claims here

  claims-back : claims_of (records_of_block written b 0 (claim_count written)) ≡ claims_of here
  claims-back =
      claims-from written b (claims_of here) (λ k l. written-claim b (claims_of here) few-claims k no_claim l (fits-at b here o.all_of k l)) (claim_count written) 0
      (omega (arith, count_so, length-claims here))

  blocks-back : blocks_of (records_of_block written b 0 (claim_count written)) ≡ blocks_of here
  blocks-back = ap (λ (n : ℕ). blocks_of (records_of_block written b 0 n)) count_so ∙ blocks_from written b here 0 o.all_of

-- 5. All blocks of them, written and read
pub record Rewritten (b n : ℕ) (rs : List PlacedClaim) : Type 0 where
  pub size : length (struck_blocks rs b n) ≡ 512 * n
  pub all_so : sound_blocks b (struck_blocks rs b n) n ≡ n
  pub claims_so : claims_of (records_of_blocks (struck_blocks rs b n) b n) ≡ claims_of rs
  pub blocks-so : blocks_of (records_of_blocks (struck_blocks rs b n) b n) ≡ blocks_of rs

-- the first block, and those behind it
struck-step : (n b : ℕ) (rs : List PlacedClaim) (h : Laid b (suc n) rs)
    → struck_blocks rs b (suc n) ≡ bytes_of_block b (claims_of h.0) ++ struck_blocks h.1 (suc b) n
unfolding struck_blocks
struck-step n b rs h =
    let here = h.0 in
    let later = h.1 in
    let o = h.3.all_of in
    let e : (d : ℕ) → in_block d rs ≡ in_block d here ++ in_block d later = λ d. ap (in_block d) h.2 ∙ in-append d here later in
    let p : in_block b rs ≡ claims_of here =
    e b ∙ (λ i. in-of b here o i ++ in-later n b (suc b) later h.4 (omega arith) i) ∙ append-nil (claims_of here) in
    let q : (d : ℕ) → suc b ≤ d → in_block d rs ≡ in_block d later =
    λ d l. e d ∙ ap (λ (cs : List Claim). cs ++ in_block d later) (in-other d b here o (λ (z : b ≡ d). omega arith)) in
    λ i. bytes_of_block b (p i) ++ struck-same n (suc b) rs later q i

pub rewritten : (n b : ℕ) (rs : List PlacedClaim) → 1 ≤ b → Laid b n rs → Rewritten b n rs
unfolding struck_blocks sound_blocks records_of_blocks claims_of blocks_of
rewritten zero b rs low h = record { size = refl; all_so = refl; claims_so = sym (ap claims_of h); blocks-so = sym (ap blocks_of h) }
rewritten (suc n) b rs low h =
    let here = h.0 in
    let later = h.1 in
    let e = struck-step n b rs h in
    let w = written b here h.3 in
    let l = written-length b here h.3 in
    let rest = struck_blocks later (suc b) n in
    let r = rewritten n (suc b) later (omega arith) h.4 in
    let front : (x : List ℕ) → x ≡ w ++ rest → records_of_blocks x b (suc n) ≡ records_of_block w b 0 (claim_count w) ++ records_of_blocks rest (suc b) n =
    λ x q. ap (λ (y : List ℕ). records_of_blocks y b (suc n)) q ∙ rw (take_at w rest 512 l, drop_at w rest 512 l) in
    record {
      size = let a = length-append w rest in omega (arith, ap length e, r.size);
      all_so = ap (λ (x : List ℕ). sound_blocks b x (suc n)) e ∙ rw (take_at w rest 512 l, drop_at w rest 512 l, block-so b here h.3 low) (ap suc r.all_so);
      claims_so =
          ap claims_of (front _ e)
          ∙ claims-append (records_of_block w b 0 (claim_count w)) (records_of_blocks rest (suc b) n)
          ∙ (λ i. claims-back b here h.3 i ++ r.claims_so i)
          ∙ sym (ap claims_of h.2 ∙ claims-append here later);
      blocks-so =
          ap blocks_of (front _ e)
          ∙ blocks-append (records_of_block w b 0 (claim_count w)) (records_of_blocks rest (suc b) n)
          ∙ (λ i. blocks-back b here h.3 i ++ r.blocks-so i)
          ∙ sym (ap blocks_of h.2 ∙ blocks-append here later);
    }
