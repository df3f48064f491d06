-- Document 02, request No. 1: corrected claims in the same file. Of all records with one claim number only the last in file order is studied.
use Rattle.std.specs.Prelude.{ℕ, zero, suc, ◌/◌, ◌%◌, Bool, false, ◌&&◌, ◌||◌, List, [], ◌∷◌, ◌++◌, length, take, drop, leb, ltb, eqb}
use Rattle.basics.specs.Limits.{block_bytes, most_records}
use Rattle.basics.specs.Pick.{pick}
use Rattle.basics.specs.Checks.{refuse_block, refuse_too_many_records}
use Rattle.claim_months.specs.declared.Claim.{Claim}
use Rattle.study.specs.declared.Study.{Study}
use Rattle.study.specs.Study.{fresh, first_day_alone, opened}
use Rattle.claim_file.specs.Runs.{CorrectedRun}
use Rattle.claim_file.specs.Bytes.{date_from}
use Rattle.claim_file.specs.Block.{block_claim, claim_count, block_sound, bytes_of_block}
use Rattle.claim_file.specs.Run.{Adding, adding}

-- The records of a file in file order, each with its block and its place there, from 1. The n records of a block from place k (from 0) on; those of
-- the first n blocks, which have numbers from b on; and those of the whole file
pub record PlacedClaim : Type 0 where
  pub claim : Claim
  pub block : ℕ
  pub place : ℕ

unfoldable pub records_of_block : List ℕ → ℕ → ℕ → ℕ → List PlacedClaim
records_of_block bytes b k zero = []
records_of_block bytes b k (suc n) = record { claim = block_claim bytes k; block = b; place = suc k } ∷ records_of_block bytes b (suc k) n

unfoldable pub records_of_blocks : List ℕ → ℕ → ℕ → List PlacedClaim
records_of_blocks bytes b zero = []
records_of_blocks bytes b (suc n) =
    records_of_block (take block_bytes bytes) b 0 (claim_count (take block_bytes bytes)) ++ records_of_blocks (drop block_bytes bytes) (suc b) n

unfoldable pub file_records : List ℕ → List PlacedClaim
file_records bytes = records_of_blocks bytes 0 (length bytes / block_bytes)

unfoldable pub claims_of : List PlacedClaim → List Claim
claims_of [] = []
claims_of (r ∷ rs) = r.claim ∷ claims_of rs

unfoldable pub blocks_of : List PlacedClaim → List ℕ
blocks_of [] = []
blocks_of (r ∷ rs) = r.block ∷ blocks_of rs

unfoldable pub places_of : List PlacedClaim → List ℕ
places_of [] = []
places_of (r ∷ rs) = r.place ∷ places_of rs

-- how many of the n blocks of some bytes, from the number due on, are sound up to the first that isn't; a file of sound blocks: all of them,
-- block 0 among them, and no part block at the end
unfoldable pub sound_blocks : ℕ → List ℕ → ℕ → ℕ
sound_blocks due bytes zero = 0
sound_blocks due bytes (suc n) = pick (block_sound due (take block_bytes bytes)) (suc (sound_blocks (suc due) (drop block_bytes bytes) n)) 0

unfoldable pub sound_all : List ℕ → Bool
sound_all bytes =
    eqb (sound_blocks 0 bytes (length bytes / block_bytes)) (length bytes / block_bytes) && eqb (length bytes % block_bytes) 0 && ltb 0 (length bytes)

-- a claim number stands in some records; of all records with one claim number the last in file order are kept
unfoldable pub has_number : ℕ → List PlacedClaim → Bool
has_number x [] = false
has_number x (r ∷ rs) = eqb r.claim.number x || has_number x rs

unfoldable pub last_ones : List PlacedClaim → List PlacedClaim
last_ones [] = []
last_ones (r ∷ rs) = pick (has_number r.claim.number rs) (last_ones rs) (r ∷ last_ones rs)

-- adding records to a study in order, up to the first refusal: its number, and the record's block and place
unfoldable pub records_added : Adding → Study → List PlacedClaim → CorrectedRun
records_added add s [] = record { study = s; refused = 0; block = 0; place = 0 }
records_added add s (r ∷ rs) =
    let a = add s r.claim in
    pick (eqb a.refused 0) (records_added add a.study rs)
    (record { study = a.study; refused = a.refused; block = r.block; place = r.place })

-- The run with corrections: every block, then the window, then the number of records, before any claim. No study is opened yet where a block or the
-- window is refused. With a way to add, and with rates
unfoldable pub corrected_run_with : Adding → List ℕ → CorrectedRun
corrected_run_with add bytes =
    let answer = opened (date_from bytes 16) (date_from bytes 20) in
    pick (sound_all bytes)
    (pick (eqb answer.refused 0)
    (pick (leb (length (file_records bytes)) most_records) (records_added add answer.study (last_ones (file_records bytes)))
    (record { study = answer.study; refused = refuse_too_many_records; block = 0; place = 0 }))
    (record { study = answer.study; refused = answer.refused; block = 0; place = 0 }))
    (record { study = fresh first_day_alone; refused = refuse_block; block = sound_blocks 0 bytes (length bytes / block_bytes); place = 0 })

abbrev pub corrected_run : List ℕ → List ℕ → CorrectedRun
corrected_run rates bytes = corrected_run_with (adding rates) bytes

-- The struck file: the same blocks without the struck records
unfoldable pub in_block : ℕ → List PlacedClaim → List Claim
in_block b [] = []
in_block b (r ∷ rs) = pick (eqb r.block b) (r.claim ∷ in_block b rs) (in_block b rs)

unfoldable pub struck_blocks : List PlacedClaim → ℕ → ℕ → List ℕ
struck_blocks kept b zero = []
struck_blocks kept b (suc n) = bytes_of_block b (in_block b kept) ++ struck_blocks kept (suc b) n

unfoldable pub struck_file : List ℕ → List ℕ
struck_file bytes = take block_bytes bytes ++ struck_blocks (last_ones (file_records bytes)) 1 (length (drop block_bytes bytes) / block_bytes)
