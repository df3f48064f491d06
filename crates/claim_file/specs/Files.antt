-- Demand 3 for files: of files that differ only in the window of block 0, with windows that cut one another, every run ends at the same place under
-- the same number, with as many claims taken, and their sums add up in both sets, also the sums so far; a run that is not refused has the study of the
-- file's claims. `crates/claim_file/proofs/Files.antt` proves it.
use Rattle.std.specs.Prelude.{ℕ, zero, suc, ◌/◌, ◌≡◌, List, [], ◌∷◌, ◌++◌, length, take, drop}
use Rattle.basics.specs.Limits.{block_bytes}
use Rattle.claim_months.specs.declared.Claim.{Claim}
use Rattle.claim_months.specs.declared.Window.{Window}
use Rattle.claim_months.specs.Windows.{between, Parts, total, EveryPart}
use Rattle.study.specs.Sums.{plus}
use Rattle.study.specs.Study.{study_of, opened}
use Rattle.claim_file.specs.declared.WindowDates.{WindowDates}
use Rattle.claim_file.specs.Runs.{FileRun}
use Rattle.claim_file.specs.Block.{window_bytes, block_claim, claim_count}
use Rattle.claim_file.specs.Run.{file_run}

-- the run of the file with a window in block 0 and any bytes behind it
unfoldable pub run_of : List ℕ → List ℕ → WindowDates → FileRun
run_of rates rest w = file_run rates (window_bytes w.first w.last ++ rest)

-- the claims of a block from place k on, n of them; of the first n blocks of some bytes; and of all their whole blocks, in file order
unfoldable pub claims_of_block : List ℕ → ℕ → ℕ → List Claim
claims_of_block bytes k zero = []
claims_of_block bytes k (suc n) = block_claim bytes k ∷ claims_of_block bytes (suc k) n

unfoldable pub claims_of_blocks : List ℕ → ℕ → List Claim
claims_of_blocks bytes zero = []
claims_of_blocks bytes (suc n) = claims_of_block (take block_bytes bytes) 0 (claim_count (take block_bytes bytes)) ++ claims_of_blocks (drop block_bytes bytes) n

unfoldable pub file_claims : List ℕ → List Claim
file_claims bytes = claims_of_blocks bytes (length bytes / block_bytes)

-- opening accepts a file's window
abbrev pub Accepts : WindowDates → Type 0
Accepts w = (opened w.first w.last).refused ≡ 0

-- a file's window as day numbers
abbrev pub window_days : WindowDates → Window
window_days w = between w.first w.last

-- two runs end at the same place under the same number, with as many claims taken
pub record SameEnd (r s : FileRun) : Type 0 where
  pub number : r.refused ≡ s.refused
  pub block : r.block ≡ s.block
  pub place : r.place ≡ s.place
  pub taken : r.study.taken ≡ s.study.taken

-- a run that is not refused has the study of the file's claims
abbrev pub HasStudy : List ℕ → List ℕ → WindowDates → Type 0
HasStudy rates rest w = (run_of rates rest w).refused ≡ 0 → (run_of rates rest w).study ≡ study_of (window_days w) rates (file_claims rest)

pub record FilesAddUp (rates rest : List ℕ) (whole part : WindowDates) (parts : List WindowDates) : Type 0 where
  pub same_end : EveryPart (λ w. SameEnd (run_of rates rest w) (run_of rates rest whole)) part parts
  pub sums : total plus (λ w. (run_of rates rest w).study.sums) part parts ≡ (run_of rates rest whole).study.sums
  pub whole_study : HasStudy rates rest whole
  pub part_studies : EveryPart (HasStudy rates rest) part parts

-- it holds of every rate table, every file behind block 0, sound or not, and every way to cut a window
abbrev pub FilesDemand3 : Type 0
FilesDemand3 =
    (rates rest : List ℕ) (whole part : WindowDates) (parts : List WindowDates) → Accepts whole
    → Parts Accepts window_days (window_days whole).first.0 (window_days whole).last.0 part parts → FilesAddUp rates rest whole part parts
