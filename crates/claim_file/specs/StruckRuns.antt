-- Document 02, request No. 1, the statement: a run with corrections is the plain run of the struck file.
use Rattle.std.specs.Prelude.{ℕ, ◌<◌, ◌≤◌, ◌≡◌, true, List, ◌⊎◌, length, take, get_or}
use Rattle.basics.specs.Limits.{block_bytes, most_records}
use Rattle.claim_file.specs.Runs.{FileRun}
use Rattle.claim_file.specs.Runs.{CorrectedRun}
use Rattle.claim_file.specs.BlockAnswers.{no_claim}
use Rattle.claim_file.specs.Run.{Adding, file_run_with}
use Rattle.claim_file.specs.RoundTrip.{AreBytes}
use Rattle.claim_file.specs.Corrections.{PlacedClaim, file_records, claims_of, blocks_of, places_of, sound_all, last_ones, corrected_run_with, struck_file}

-- Where a plain run of a file and a run with corrections stop. Nowhere: number, block and place of both are 0
abbrev pub NoStop : FileRun → CorrectedRun → Type 0
NoStop plain corrected =
    (plain.refused ≡ 0) × (plain.block ≡ 0) × (plain.place ≡ 0) × (corrected.block ≡ 0) × (corrected.place ≡ 0)

-- at the window: both are refused at block 0, before any claim
abbrev pub WindowStop : FileRun → CorrectedRun → Type 0
WindowStop plain corrected =
    (plain.refused ≡ 0 → ⊥) × (plain.block ≡ 0) × (plain.place ≡ 0) × (corrected.block ≡ 0) × (corrected.place ≡ 0)

-- at one record of their sequences of records: both are refused, each at the place that it has in its file
abbrev pub RecordStop : FileRun → List PlacedClaim → CorrectedRun → List PlacedClaim → Type 0
RecordStop plain records corrected kept =
    (plain.refused ≡ 0 → ⊥) × (i : ℕ) × (i < length kept) × (i < length records)
    × (plain.block ≡ get_or (blocks_of records) i 0) × (corrected.block ≡ get_or (blocks_of kept) i 0)
    × (plain.place ≡ get_or (places_of records) i 0) × (corrected.place ≡ get_or (places_of kept) i 0)
    × (get_or (claims_of records) i no_claim ≡ get_or (claims_of kept) i no_claim)

-- Both stop alike, with the same study and number
pub record SameStop (plain : FileRun) (records : List PlacedClaim) (corrected : CorrectedRun) (kept : List PlacedClaim) : Type 0 where
  pub study : plain.study ≡ corrected.study
  pub number : plain.refused ≡ corrected.refused
  pub stop : NoStop plain corrected ⊎ (WindowStop plain corrected ⊎ RecordStop plain records corrected kept)

-- of a file with all blocks sound and at most 60,000 records, and a sound window or not, with any way to add. `proofs/StruckRuns.antt` proves it
pub record StruckRuns : Type 0 where
  -- the struck file has sound blocks, the same block 0, and the kept records, each in its block
  pub sound : (bytes : List ℕ) → AreBytes bytes → sound_all bytes ≡ true → sound_all (struck_file bytes) ≡ true
  pub block_0 : (bytes : List ℕ) → sound_all bytes ≡ true → take block_bytes (struck_file bytes) ≡ take block_bytes bytes
  pub claims : (bytes : List ℕ) → AreBytes bytes → sound_all bytes ≡ true → claims_of (file_records (struck_file bytes)) ≡ claims_of (last_ones (file_records bytes))
  pub blocks : (bytes : List ℕ) → AreBytes bytes → sound_all bytes ≡ true → blocks_of (file_records (struck_file bytes)) ≡ blocks_of (last_ones (file_records bytes))
  -- the plain run of any file with that block 0 and that sequence of records
  pub same : (add : Adding) (bytes other : List ℕ) → sound_all bytes ≡ true → length (file_records bytes) ≤ most_records → sound_all other ≡ true
      → take block_bytes other ≡ take block_bytes bytes → claims_of (file_records other) ≡ claims_of (last_ones (file_records bytes))
      → SameStop (file_run_with add other) (file_records other) (corrected_run_with add bytes) (last_ones (file_records bytes))
  -- and so that of the struck file
  pub struck : (add : Adding) (bytes : List ℕ) → AreBytes bytes → sound_all bytes ≡ true → length (file_records bytes) ≤ most_records
      → SameStop (file_run_with add (struck_file bytes)) (file_records (struck_file bytes)) (corrected_run_with add bytes) (last_ones (file_records bytes))
