-- What the calls that run a whole claim file store.
use Rattle.std.specs.Prelude.{List, ℤ}
use Rattle.claim_file.specs.Runs.{FileRun}
use Rattle.study_list.specs.StudyList.{placed_numbers}

-- ltd_file_study and ltd_prepared_file_study: number, block and place of a run, and its study
unfoldable pub run_numbers : FileRun → List ℤ
run_numbers r = placed_numbers r.refused r.block r.place r.study
