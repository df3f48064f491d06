-- The rows of a group's durations total that group of the file's study.
use Rattle.std.specs.Prelude.{◌≡◌, ℕ, ◌+◌, ◌-◌, ◌*◌, ◌<◌, ◌≤◌, min, List, ℤ, pos, ◌==◌, slice_index_or}
use Rattle.basics.specs.Limits.{most_rows}
use Rattle.basics.specs.Pick.{pick}
use Rattle.basics.specs.Series.{sum_to}
use Rattle.rates.specs.declared.Kind.{Kind}
use Rattle.rates.specs.Rates.{last_of}
use Rattle.study.specs.Sums.{sum_at}
use Rattle.by_duration.specs.DurationRuns.{run_for, duration_rows}

-- the number of a row and column among some rows
abbrev pub row_number : List ℤ → ℕ → ℕ → ℤ
row_number rows r column = slice_index_or rows (8 * (r - 1) + column) (pos 0)

-- the first duration of a group
unfoldable pub first_of : ℕ → ℕ
first_of g = pick (g == 1) 1 (last_of (g - 1) + 1)

-- among n rows, how many are of group g's durations: to its last one, or to the last row
unfoldable pub group_rows : ℕ → ℕ → ℕ
group_rows n g = min (last_of g) n + 1 - first_of g

-- their total in a column
unfoldable pub rows_total : List ℤ → ℕ → ℕ → ℕ → ℤ
rows_total rows n g column = sum_to (λ j. row_number rows (first_of g + j) column) (group_rows n g)

-- Each group of a file's study is the total of its rows, in every column, with a table of either kind: a group before the last where its last duration
-- comes before n, the last one where n is 121 or more. `proofs/GroupTotals.antt` proves it
abbrev pub GroupTotals : Type 0
GroupTotals =
    (kind : Kind) (table bytes : List ℕ) (n g column : ℕ) → n ≤ most_rows → 1 ≤ g → g ≤ 5 → column < 8 → last_of (min g 4) < n
    → rows_total (duration_rows kind n table bytes) n g column ≡ sum_at (run_for kind table bytes).study.sums g column
