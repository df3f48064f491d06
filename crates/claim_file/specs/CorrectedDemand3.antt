-- Demand 3 for the runs with corrections.
use Rattle.std.specs.Prelude.{ℕ, ◌/◌, ◌≡◌, List, ◌++◌, length}
use Rattle.basics.specs.Limits.{block_bytes}
use Rattle.claim_months.specs.declared.Claim.{Claim}
use Rattle.claim_months.specs.Windows.{Parts, total, EveryPart}
use Rattle.study.specs.Sums.{plus}
use Rattle.study.specs.Study.{study_of}
use Rattle.claim_file.specs.declared.WindowDates.{WindowDates}
use Rattle.claim_file.specs.Runs.{CorrectedRun}
use Rattle.claim_file.specs.Block.{window_bytes}
use Rattle.claim_file.specs.Files.{Accepts, window_days}
use Rattle.claim_file.specs.Corrections.{records_of_blocks, claims_of, last_ones, corrected_run}

-- Files that differ only in their window, with sound windows that cut one another: all corrected runs end under the same number, block and place,
-- with as many claims taken, and their sums add up in both sets, whatever the bytes behind block 0; a run that is not refused has the study of the
-- claims kept. `proofs/CorrectedDemand3.antt` proves it
unfoldable pub corrected_of : List ℕ → List ℕ → WindowDates → CorrectedRun
corrected_of rates rest w = corrected_run rates (window_bytes w.first w.last ++ rest)

pub record SameCorrectedEnd (r s : CorrectedRun) : Type 0 where
  pub number : r.refused ≡ s.refused
  pub block : r.block ≡ s.block
  pub place : r.place ≡ s.place
  pub taken : r.study.taken ≡ s.study.taken

-- the claims kept of the records behind block 0, and that a run which is not refused has their study
unfoldable pub kept_claims : List ℕ → List Claim
kept_claims rest = claims_of (last_ones (records_of_blocks rest 1 (length rest / block_bytes)))

abbrev pub HasKeptStudy : List ℕ → List ℕ → WindowDates → Type 0
HasKeptStudy rates rest w =
    (corrected_of rates rest w).refused ≡ 0 → (corrected_of rates rest w).study ≡ study_of (window_days w) rates (kept_claims rest)

pub record CorrectedAddUp (rates rest : List ℕ) (whole part : WindowDates) (parts : List WindowDates) : Type 0 where
  pub same_end : EveryPart (λ w. SameCorrectedEnd (corrected_of rates rest w) (corrected_of rates rest whole)) part parts
  pub sums : total plus (λ w. (corrected_of rates rest w).study.sums) part parts ≡ (corrected_of rates rest whole).study.sums
  pub whole_study : HasKeptStudy rates rest whole
  pub part_studies : EveryPart (HasKeptStudy rates rest) part parts

abbrev pub CorrectedDemand3 : Type 0
CorrectedDemand3 =
    (rates rest : List ℕ) (whole part : WindowDates) (parts : List WindowDates) → Accepts whole
    → Parts Accepts window_days (window_days whole).first.0 (window_days whole).last.0 part parts → CorrectedAddUp rates rest whole part parts
