-- The rows of a claim file: the run of the file, with its checks in their order, and the rows of the claims taken.
use Rattle.std.specs.Prelude.{ℕ, ◌+◌, ◌-◌, ◌*◌, ◌/◌, Bool, ◌&&◌, List, [], ◌∷◌, ◌++◌, map, length, take, ℤ, pos, ◌==◌, nat_le}
use Rattle.basics.specs.Limits.{most_rows, no_form}
use Rattle.basics.specs.Pick.{pick}
use Rattle.claim_months.specs.declared.Claim.{Claim}
use Rattle.rates.specs.declared.Kind.{Kind}
use Rattle.claim_file.specs.Runs.{FileRun}
use Rattle.claim_file.specs.Run.{file_run_with}
use Rattle.claim_file.specs.design.PreparedRuns.{adding_with}
use Rattle.claim_file.specs.Files.{file_claims}
use Rattle.by_duration.specs.Rows.{rows_over}
use Rattle.by_duration.specs.Wrapped.{as64}

-- the claims that a run of a file has taken: a run stops at the first refusal, so they are the file's first ones
unfoldable pub taken_claims : List ℕ → FileRun → List Claim
taken_claims bytes r = take r.study.taken (file_claims bytes)

-- the run of a file with a table of a kind
abbrev pub run_for : Kind → List ℕ → List ℕ → FileRun
run_for kind table bytes = file_run_with (adding_with kind table) bytes

-- the n rows of a file
unfoldable pub duration_rows : Kind → ℕ → List ℕ → List ℕ → List ℤ
duration_rows kind n table bytes =
    let r = run_for kind table bytes in
    rows_over kind n r.study.window table (taken_claims bytes r)

-- number, block and place of a run, and the claims taken
unfoldable pub head_numbers : FileRun → List ℤ
head_numbers r = pos r.refused ∷ pos r.block ∷ pos r.place ∷ pos r.study.taken ∷ []

-- what is given: these, and behind them the rows
unfoldable pub duration_numbers : Kind → ℕ → List ℕ → List ℕ → List ℤ
duration_numbers kind n table bytes = head_numbers (run_for kind table bytes) ++ map as64 (duration_rows kind n table bytes)

-- Such a list has 4 + 8 × n numbers, n from 1 to 2,000. One of another length is answered 255 and keeps what it holds; else the answer is the run's number
unfoldable pub rows_in : ℕ → ℕ
rows_in len = (len - 4) / 8

unfoldable pub has_rows : ℕ → Bool
has_rows len = nat_le 1 (rows_in len) && nat_le (rows_in len) most_rows && len == 4 + 8 * rows_in len

unfoldable pub durations_answered : Kind → List ℕ → List ℕ → List ℤ → ℕ
durations_answered kind table bytes old = pick (has_rows (length old)) (run_for kind table bytes).refused no_form

unfoldable pub durations_after : Kind → List ℕ → List ℕ → List ℤ → List ℤ
durations_after kind table bytes old = pick (has_rows (length old)) (duration_numbers kind (rows_in (length old)) table bytes) old
