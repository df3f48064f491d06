-- The calls for the rows of a whole claim file: ltd_durations and ltd_prepared_durations. What they answer and store is a definition of `by_duration`
-- (`specs/DurationRuns.antt`). `proofs/DurationCalls.antt` proves `SameDurations`.
use Rattle.std.specs.Prelude.{ℕ, ◌≡◌, true, List, length, get_or, ℤ, pos}
use Rattle.rates.specs.declared.Kind.TheVariants.{Plain, Prepared}
use Rattle.rates.specs.design.Prepared.{prepared_of}
use Rattle.claim_file.specs.Runs.{FileRun}
use Rattle.claim_file.specs.Run.{file_run}
use Rattle.by_duration.specs.DurationRuns.{has_rows, durations_answered, durations_after}

-- Number, block, place and claims taken of a list of rows are those of a file's run
pub record HeadOf (r : FileRun) (xs : List ℤ) : Type 0 where
  pub number : get_or xs 0 (pos 0) ≡ pos r.refused
  pub block : get_or xs 1 (pos 0) ≡ pos r.block
  pub place : get_or xs 2 (pos 0) ≡ pos r.place
  pub taken : get_or xs 3 (pos 0) ≡ pos r.study.taken

-- With a table prepared of some rates ltd_prepared_durations is ltd_durations with these rates, in the answer and in the list, for all lists; and both
-- run the file as ltd_file_study does
pub record SameDurations (out : List ℤ) (file rates : List ℕ) : Type 0 where
  pub answer : durations_answered Prepared (prepared_of rates) file out ≡ durations_answered Plain rates file out
  pub after : durations_after Prepared (prepared_of rates) file out ≡ durations_after Plain rates file out
  pub run : has_rows (length out) ≡ true → durations_answered Plain rates file out ≡ (file_run rates file).refused
  pub head : has_rows (length out) ≡ true → HeadOf (file_run rates file) (durations_after Plain rates file out)
