-- Blocks by the calls, written and read back: from the block that `claim_file` reads back, and the steps of a load.
-- Assumes nothing.
use Prim.Native.Nat.{ℕ, zero, suc, ◌*◌, ◌/◌, ◌%◌, ◌≤◌, ◌<◌}
use mathlib.Core.Path.{◌≡◌, refl, sym, ap, subst, ◌∙◌}
use mathlib.Core.Bool.{Bool, true, ◌&&◌, and-eq-true_iff}
use mathlib.Core.List.{List, [], ◌∷◌, ◌++◌}
use native.Mathlib.Omega.{arith}
use native.Mathlib.Nat.{not-suc-le-zero, le_of_suc-le-suc}
use native.Mathlib.Numerals.{add-one}
use lib.ListN.{length, get_or}
use lib.Seq.{sets}
use borrow.Author.Tests.{eq-eqb, le-leb, le-ltb}
use Rattle.std.specs.Prelude.{Some, Result, Ok, Err}
use Rattle.basics.specs.Pick.{pick}
use Rattle.basics.specs.Checks.{◌then◌, refuse_load}
use Rattle.basics.proofs.Tests.{tests, by}
use Rattle.claim_months.specs.declared.Claim.{Claim}
use Rattle.claim_file.specs.declared.Block.{Block}
use Rattle.claim_file.specs.Record.{claim_bytes, all_claim_bytes}
use Rattle.claim_file.specs.Block.{block_claim, bytes_of_block}
use Rattle.claim_file.specs.BlockAnswers.{no_claim, claims_in, record_in, read_of, write_sound, write_check, bytes_after}
use Rattle.claim_file.specs.RoundTrip.{ClaimFits}
use Rattle.claim_file.proofs.ByteStores.{length-all, sets-all}
use Rattle.claim_file.proofs.ReadBack.{block_count, block_read, first-read, record-back}
use Rattle.claim_file.proofs.Reading.{Placed, placed-none, placed-more, placed-all}
use Rattle.load.specs.Load.{seed_sound, step_sound, load_claim, load_step, load, seed_at, drawn}
use Rattle.load.proofs.Seeds.{claim-at, steps}
use Rattle.load.proofs.Passing.{claim-fits}
use Rattle.load.specs.declared.LoadedClaim.{LoadedClaim}
use Rattle.c_abi.specs.RecordCalls.{is_record, claim_or, all_records, record_count, records_form, records_read, block_of, read_number, read_stored, write_answer, write_after}
use Rattle.c_abi.specs.LoadCalls.{step_lent, step_number, record_stored, step_answered, record_after}
use Rattle.c_abi.specs.BlockCalls.{ReadBack, ReadsBack, LoadCall, record_left, AllGenerated, records_left, claims_at, BlocksReadBack}

-- the records of some claims
module _ (number : ℕ) (cs : List Claim) (few : length cs ≤ 15) (fits : (k : ℕ) → k < length cs → ClaimFits (get_or cs k no_claim)) (low : 1 ≤ number) (high : number ≤ 65535) where
  records : List ℕ
  records = all_claim_bytes cs

  written : List ℕ
  written = bytes_of_block number cs

  back : (k : ℕ) → k < length cs → Some (block_claim written k) ≡ record_in records (32 * k)
  unfolding records written
  back = record-back number cs few fits

  many : record_count records ≡ length cs
  unfolding records
  many = omega (arith, length-all cs)

  all-records : (m : ℕ) → m ≤ length cs → all_records records m ≡ true
  unfolding all_records
  all-records zero h = refl
  all-records (suc m) h = λ i. all-records m (omega arith) i && is_record (sym (back m (omega arith)) i)

  form : records_form records ≡ true
  unfolding records
  form =
      let n = length-all cs in
      let all : all_records records (length records / 32) ≡ true = all-records (length records / 32) (omega arith) in
      rw (eq-eqb (length records % 32) 0 (omega arith), le-leb (length records / 32) 15 (omega arith), all)

  -- the places are those of the block that is written
  places : (m : ℕ) → m ≤ length cs → Placed written m (records_read records m)
  unfolding records_read
  places zero h = placed-none written no_claim refl
  places (suc m) h =
      subst (λ (n : ℕ). Placed written n (records_read records (suc m))) (add-one m)
      (placed-more written m (records_read records m) (claim_or (record_in records (32 * m))) (omega arith)
      (ap claim_or (sym (back m (omega arith)))) (places m (omega arith)))

  same_block : block_of records ≡ record { count = length cs; claims = claims_in written 0 15 }
  unfolding written
  same_block =
      let p : records_read records (record_count records) ≡ claims_in written 0 15 =
      placed-all written (records_read records (record_count records))
      (subst (λ (n : ℕ). Placed written n (records_read records (record_count records))) (many ∙ sym (block_count number cs few)) (places (record_count records) (omega (arith, many)))) in
      λ i. record { count = many i; claims = p i }

  module _ (block claims : List ℕ) (whole : length block ≡ 512) (room : 480 ≤ length claims) where
    sound : write_sound number (length cs) (length block) ≡ true
    unfolding write_sound
    sound = rw (le-leb 1 number low, le-leb number 65535 high, le-leb (length cs) 15 few, eq-eqb (length block) 512 whole)

    answered : write_answer number records block ≡ 0
    unfolding ◌then◌ write_check
    answered = rw (form, many, sound) refl

    after : write_after number records block ≡ written
    unfolding bytes_after written
    after =
        rw form
        (ap (λ (b : Block). bytes_after number b block) same_block ∙ rw sound (ap (bytes_of_block number) (first-read number cs few fits)))

    read_back : ReadBack records (length cs) number block claims
    unfolding records written
    read_back =
        let r : read_of number (write_after number records block) ≡ record { refused = 0; block = record { count = length cs; claims = claims_in written 0 15 } } =
        ap (read_of number) after ∙ block_read number cs few low high in
        record {
          written = answered;
          counted = rw (le-ltb (length claims) 480 room) (ap read_number r);
          read = rw (le-ltb (length claims) 480 room) (ap (read_stored claims) r ∙ ap (λ (xs : List Claim). sets claims 0 (all_claim_bytes xs)) (first-read number cs few fits));
        }

reads-back : (cs : List Claim) → ((k : ℕ) → k < length cs → ClaimFits (get_or cs k no_claim)) → length cs ≤ 15 → ReadsBack (all_claim_bytes cs) (length cs)
unfolding records
reads-back cs fits few number block claims low high whole room = read_back number cs few fits low (omega arith) block claims whole room

-- a call that answered 0 was given a sound step, and left the record of its claim, which fits one
module _ (c : LoadCall) (whole : length c.claim ≡ 32) where
  abbrev step : Bool → Result LoadedClaim ℕ
  step t = pick t (Ok (record { claim = load_claim c.x c.number; x = drawn 5 c.x })) (Err refuse_load)

  left_is : step_sound c.x c.size c.number ≡ true → sets c.claim 0 (claim_bytes (load_claim c.x c.number)) ≡ claim_bytes (load_claim c.x c.number)
  unfolding claim_bytes
  left_is h = sets-all c.claim (claim_bytes (load_claim c.x c.number)) (sym whole)

  number_fits : step_sound c.x c.size c.number ≡ true → ClaimFits (load_claim c.x c.number)
  unfolding step_sound
  number_fits h = let t = simp and-eq-true_iff at h in claim-fits c.x c.number (omega tests)

  generated_is : step_answered c.x_out c.claim (load_step c.x c.size c.number) ≡ 0
      → (record_left c ≡ claim_bytes (load_claim c.x c.number)) × ClaimFits (load_claim c.x c.number)
  unfolding load_step
  generated_is =
      by (step_lent c.x_out c.claim)
      (λ l.
      pick l (step_number (step (step_sound c.x c.size c.number))) 255 ≡ 0
      → (pick l (record_stored c.claim (step (step_sound c.x c.size c.number))) c.claim ≡ claim_bytes (load_claim c.x c.number)) × ClaimFits (load_claim c.x c.number))
      (λ l.
      by (step_sound c.x c.size c.number)
      (λ t. step_number (step t) ≡ 0 → (record_stored c.claim (step t) ≡ claim_bytes (load_claim c.x c.number)) × ClaimFits (load_claim c.x c.number))
      (λ e z. (left_is e, number_fits e)) (λ e z. absurd (omega arith)))
      (λ l z. absurd (omega arith))

claims_of : List LoadCall → List Claim
claims_of [] = []
claims_of (c ∷ cs) = load_claim c.x c.number ∷ claims_of cs

as-many : (calls : List LoadCall) → length (claims_of calls) ≡ length calls
unfolding claims_of
as-many [] = refl
as-many (c ∷ cs) = ap suc (as-many cs)

records-are : (calls : List LoadCall) → AllGenerated calls → records_left calls ≡ all_claim_bytes (claims_of calls)
unfolding AllGenerated records_left all_claim_bytes claims_of
records-are [] g = refl
records-are (c ∷ cs) g = λ i. (generated_is c g.0.0 g.0.1).0 i ++ records-are cs g.1 i

all-fit : (calls : List LoadCall) → AllGenerated calls → (k : ℕ) → k < length (claims_of calls) → ClaimFits (get_or (claims_of calls) k no_claim)
unfolding AllGenerated claims_of
all-fit [] g k h = absurd (not-suc-le-zero h)
all-fit (c ∷ cs) g zero h = (generated_is c g.0.0 g.0.1).1
all-fit (c ∷ cs) g (suc k) h = all-fit cs g.1 k (le_of_suc-le-suc h)

generated : (calls : List LoadCall) → AllGenerated calls → length calls ≤ 15 → ReadsBack (records_left calls) (length calls)
generated calls g few number block claims low high whole room =
    let n = as-many calls in
    let r = sym (records-are calls g) in
    subst (λ (m : ℕ). ReadBack (records_left calls) m number block claims) n
    (subst (λ (bytes : List ℕ). ReadBack bytes (length (claims_of calls)) number block claims) r
    (reads-back (claims_of calls) (all-fit calls g) (omega arith) number block claims low high whole room))

-- the claims of a load at some places
at-length : (x size : ℕ) (places : List ℕ) → length (claims_at x size places) ≡ length places
unfolding claims_at
at-length x size [] = refl
at-length x size (i ∷ is) = ap suc (at-length x size is)

at-fit : (x size : ℕ) (places : List ℕ) → size ≤ 500000 → ((k : ℕ) → k < length places → get_or places k 0 < size)
    → (k : ℕ) → k < length (claims_at x size places) → ClaimFits (get_or (claims_at x size places) k no_claim)
unfolding claims_at
at-fit x size [] h l k q = absurd (not-suc-le-zero q)
at-fit x size (i ∷ is) h l zero q =
    let m : i < size = l zero (omega arith) in
    subst ClaimFits (sym (claim-at x size i m)) (claim-fits (seed_at x i) (suc i) (omega arith))
at-fit x size (i ∷ is) h l (suc k) q = at-fit x size is h (λ j p. l (suc j) (omega arith)) k (le_of_suc-le-suc q)

of_load : (x size : ℕ) (places : List ℕ) → size ≤ 500000 → ((k : ℕ) → k < length places → get_or places k 0 < size) → length places ≤ 15
    → ReadsBack (all_claim_bytes (claims_at x size places)) (length places)
of_load x size places h l few =
    let n = at-length x size places in
    subst (ReadsBack (all_claim_bytes (claims_at x size places))) n (reads-back (claims_at x size places) (at-fit x size places h l) (omega arith))

load_calls : (x size i : ℕ) (x_out claim : List ℕ) → seed_sound x ≡ true → size ≤ 500000 → i < size → 1 ≤ length x_out → 32 ≤ length claim
    → (step_answered x_out claim (load_step (seed_at x i) size (suc i)) ≡ 0)
    × (record_after x_out claim (load_step (seed_at x i) size (suc i)) ≡ sets claim 0 (claim_bytes (get_or (load x size) i no_claim)))
load_calls x size i x_out claim s h l one long =
    rw (le-leb 1 (length x_out) one, le-leb 32 (length claim) long, steps x size i s h l) (refl, refl)

pub blocks-read-back : BlocksReadBack
blocks-read-back =
    record {
      claims = reads-back;
      generated = λ calls g few. generated calls g (omega arith);
      of_load = λ x size places s h l few. of_load x size places (omega arith) l few;
      load_calls = load_calls;
    }
