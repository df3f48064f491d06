-- Blocks by the calls: what ltd_write_block wrote of some records, ltd_read_block gives back, byte for byte. So it is of the records of any claims
-- whose fields a record holds, of those that ltd_load_claim writes, in any order and of any seeds (document 02, No. 13), and of any claims of one
-- load. `crates/c_abi/proofs/BlockCalls.antt` proves it.
use Rattle.std.specs.Prelude.{ℕ, suc, ◌≤◌, ◌<◌, ◌≡◌, true, List, [], ◌∷◌, ◌++◌, length, get_or}
use Rattle.std.proofs.lemmas.List.Edits.{sets}
use Rattle.basics.specs.Limits.{block_bytes, most_claims}
use Rattle.claim_months.specs.declared.Claim.{Claim}
use Rattle.claim_file.specs.Record.{claim_bytes, all_claim_bytes}
use Rattle.claim_file.specs.BlockAnswers.{no_claim}
use Rattle.claim_file.specs.RoundTrip.{ClaimFits}
use Rattle.load.specs.Load.{seed_sound, load_step, load, seed_at}
use Rattle.c_abi.specs.RecordCalls.{read_answer, read_after, write_answer, write_after}
use Rattle.c_abi.specs.LoadCalls.{step_answered, record_after}

-- Some records, up to fifteen, written as the block with a number and read back at it: no call refuses, the reading call answers how many there are,
-- and leaves these very records in its list, what stood behind them untouched
pub record ReadBack (records : List ℕ) (count number : ℕ) (block claims : List ℕ) : Type 0 where
  pub written : write_answer number records block ≡ 0
  pub counted : read_answer number (write_after number records block) claims ≡ count
  pub read : read_after number (write_after number records block) claims ≡ sets claims 0 records

abbrev pub ReadsBack : List ℕ → ℕ → Type 0
ReadsBack records count =
    (number : ℕ) (block claims : List ℕ) → 1 ≤ number → number ≤ 65535 → length block ≡ block_bytes → 480 ≤ length claims → ReadBack records count number block claims

-- a call of ltd_load_claim: the x, the size and the number that it is given, and the lists that it is lent
pub record LoadCall : Type 0 where
  pub x : ℕ
  pub size : ℕ
  pub number : ℕ
  pub x_out : List ℕ
  pub claim : List ℕ

-- it answered 0, and its list is a record's; and what it left there
abbrev pub Generated : LoadCall → Type 0
Generated c = (length c.claim ≡ 32) × (step_answered c.x_out c.claim (load_step c.x c.size c.number) ≡ 0)

abbrev pub record_left : LoadCall → List ℕ
record_left c = record_after c.x_out c.claim (load_step c.x c.size c.number)

-- all of some calls, and the records that they left, one after the other
unfoldable pub AllGenerated : List LoadCall → Type 0
AllGenerated [] = Unit {0}
AllGenerated (c ∷ cs) = Generated c × AllGenerated cs

unfoldable pub records_left : List LoadCall → List ℕ
records_left [] = []
records_left (c ∷ cs) = record_left c ++ records_left cs

-- the claims of a load at some places of it, from 0
unfoldable pub claims_at : ℕ → ℕ → List ℕ → List Claim
claims_at x size [] = []
claims_at x size (i ∷ is) = get_or (load x size) i no_claim ∷ claims_at x size is

pub record BlocksReadBack : Type 0 where
  pub claims : (cs : List Claim) → ((k : ℕ) → k < length cs → ClaimFits (get_or cs k no_claim)) → length cs ≤ 15 → ReadsBack (all_claim_bytes cs) (length cs)
  pub generated : (calls : List LoadCall) → AllGenerated calls → length calls ≤ 15 → ReadsBack (records_left calls) (length calls)
  pub of_load : (x size : ℕ) (places : List ℕ) → seed_sound x ≡ true → size ≤ most_claims → ((k : ℕ) → k < length places → get_or places k 0 < size)
      → length places ≤ 15 → ReadsBack (all_claim_bytes (claims_at x size places)) (length places)
  -- the call of each place of a load writes the record of its claim there
  pub load_calls : (x size i : ℕ) (x_out claim : List ℕ) → seed_sound x ≡ true → size ≤ most_claims → i < size → 1 ≤ length x_out → 32 ≤ length claim
      → (step_answered x_out claim (load_step (seed_at x i) size (suc i)) ≡ 0)
      × (record_after x_out claim (load_step (seed_at x i) size (suc i)) ≡ sets claim 0 (claim_bytes (get_or (load x size) i no_claim)))
