-- The calls for the run of a whole claim file with corrections: ltd_corrected_study and ltd_prepared_corrected_study.
-- `proofs/CorrectedCalls.antt` proves `SameCorrected`.
use Rattle.std.specs.Prelude.{ℕ, ◌≡◌, List, ℤ}
use Rattle.std.proofs.lemmas.List.Edits.{sets}
use Rattle.rates.specs.declared.Kind.TheVariants.{Prepared}
use Rattle.rates.specs.design.Prepared.{prepared_of}
use Rattle.claim_file.specs.Runs.{CorrectedRun}
use Rattle.claim_file.specs.Corrections.{corrected_run_with, corrected_run}
use Rattle.claim_file.specs.design.PreparedRuns.{adding_with}
use Rattle.study_list.specs.Lent.{answered, stored}
use Rattle.study_list.specs.StudyList.{placed_numbers}

-- what they store: number, block and place of a run with corrections, and its study
unfoldable pub corrected_numbers : CorrectedRun → List ℤ
corrected_numbers r = placed_numbers r.refused r.block r.place r.study

-- With a table prepared of some rates ltd_prepared_corrected_study is ltd_corrected_study with these rates: in the answer and in the list, for all
-- lists
pub record SameCorrected (out : List ℤ) (file rates : List ℕ) : Type 0 where
  pub answer : answered 86 out (corrected_run_with (adding_with Prepared (prepared_of rates)) file).refused ≡ answered 86 out (corrected_run rates file).refused
  pub after : stored 86 out (sets out 0 (corrected_numbers (corrected_run_with (adding_with Prepared (prepared_of rates)) file)))
      ≡ stored 86 out (sets out 0 (corrected_numbers (corrected_run rates file)))
