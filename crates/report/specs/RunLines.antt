-- The six lines of a run are all that is printed of it.
use Rattle.std.specs.Prelude.{◌≡◌, ◌++◌}
use Rattle.claim_file.specs.Runs.{FileRun}
use Rattle.report.specs.Text.{run_text, run_line}

-- the promise that the lines 0 to 5, one behind another, are what a run prints (`run-lines` in proofs/)
unfoldable pub RunLines : Type 0
RunLines =
    (r : FileRun)
    → run_text r ≡ run_line r 0 ++ (run_line r 1 ++ (run_line r 2 ++ (run_line r 3 ++ (run_line r 4 ++ run_line r 5))))
