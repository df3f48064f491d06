-- The runs with a prepared table are the papers' runs with its rates.
use Rattle.std.specs.Prelude.{ℕ, ◌≡◌, List}
use Rattle.rates.specs.declared.Kind.TheVariants.{Plain, Prepared}
use Rattle.rates.specs.design.Prepared.{prepared_of}
use Rattle.claim_file.specs.Runs.{FileRun}
use Rattle.claim_file.specs.Run.{adding, fed, file_run_with, file_run}
use Rattle.claim_file.specs.Corrections.{corrected_run_with, corrected_run}
use Rattle.claim_file.specs.design.PreparedRuns.{adding_with}

-- feeding, the run of a whole file, and that with corrections, of any bytes and any rates, refusals included; `proofs/SameRuns.antt` proves it
pub record SameRuns (rates bytes : List ℕ) : Type 0 where
  pub plain_fed : (r : FileRun) → fed r (adding_with Plain rates) bytes ≡ fed r (adding rates) bytes
  pub prepared_fed : (r : FileRun) → fed r (adding_with Prepared (prepared_of rates)) bytes ≡ fed r (adding rates) bytes
  pub plain_run : file_run_with (adding_with Plain rates) bytes ≡ file_run rates bytes
  pub prepared_run : file_run_with (adding_with Prepared (prepared_of rates)) bytes ≡ file_run rates bytes
  pub plain_corrected : corrected_run_with (adding_with Plain rates) bytes ≡ corrected_run rates bytes
  pub prepared_corrected : corrected_run_with (adding_with Prepared (prepared_of rates)) bytes ≡ corrected_run rates bytes
