-- The sums of each duration: n rows of eight numbers, row d with what a group of a study has, over the month records of duration d. The last row has
-- n and all later durations. By count.
use Rattle.std.specs.Prelude.{ℕ, ◌+◌, ◌*◌, ◌/◌, min, List, ℤ, pos, ◌+ℤ◌, ◌==◌}
use Rattle.basics.specs.Pick.{pick}
use Rattle.basics.specs.Tables.{table}
use Rattle.claim_months.specs.declared.Claim.{Claim}
use Rattle.claim_months.specs.declared.Window.{Window}
use Rattle.claim_months.specs.Exposure.{MonthRecord, month_records, weighted, closings}
use Rattle.rates.specs.declared.Kind.{Kind}
use Rattle.rates.specs.design.Prepared.{recovery_of, death_of}
use Rattle.study.specs.Sums.{column_at, is_count}
use Rattle.study.specs.Study.{sum_over}

-- The row of a duration among n rows
unfoldable pub row_of : ℕ → ℕ → ℕ
row_of n d = min d n

-- A place of the rows has a row, from 1, and a column, 0 to 7, as a place of a study's sums has
abbrev pub row_at : ℕ → ℕ
row_at k = k / 8 + 1

-- 1 for a duration of row r, 0 for any other
unfoldable pub in_row : ℕ → ℕ → ℕ → ℕ
in_row n r d = pick (row_of n d == r) 1 0

-- a weight at the durations of row r, 0 at any other
unfoldable pub row_weight : ℕ → ℕ → (ℕ → ℤ) → ℕ → ℤ
row_weight n r w d = pick (row_of n d == r) (w d) (pos 0)

-- Over the month records whose duration is in row r: the sum of thirtieths
unfoldable pub row_exposure : ℕ → ℕ → List MonthRecord → ℤ
row_exposure n r rs = weighted (row_weight n r (λ d. pos 1)) rs

-- the closing count under category x
unfoldable pub row_closings : ℕ → ℕ → ℕ → List MonthRecord → ℕ
row_closings n r x rs = closings (λ d y. in_row n r d * pick (y == x) 1 0) rs

-- expected recoveries and expected deaths
unfoldable pub row_expected : (ℕ → ℤ) → ℕ → ℕ → List MonthRecord → ℤ
row_expected rate n r rs = weighted (row_weight n r rate) rs

-- the figure of a column of row r
unfoldable pub row_figure : (ℕ → ℤ) → (ℕ → ℤ) → ℕ → ℕ → ℕ → List MonthRecord → ℤ
row_figure recovery death n r column rs =
    pick (is_count column) (pos (row_closings n r column rs))
    (pick (column == 0) (row_exposure n r rs) (pick (column == 6) (row_expected recovery n r rs) (row_expected death n r rs)))

-- a claim's figure of a row and column: over its month records in the window, with the table's rates of its cell
unfoldable pub claim_figure : Kind → ℕ → Window → List ℕ → ℕ → ℕ → Claim → ℤ
claim_figure kind n w table r column c =
    row_figure (recovery_of kind table c.cell) (death_of kind table c.cell) n r column (month_records c w.first.0 w.last.0)

-- the sum over claims in a row and column
unfoldable pub row_sum : Kind → ℕ → Window → List ℕ → ℕ → ℕ → List Claim → ℤ
row_sum kind n w table r column claims = sum_over ◌+ℤ◌ (pos 0) (claim_figure kind n w table r column) claims

-- The n rows of some claims
unfoldable pub rows_over : Kind → ℕ → Window → List ℕ → List Claim → List ℤ
rows_over kind n w numbers claims = table (8 * n) (λ k. row_sum kind n w numbers (row_at k) (column_at k) claims)
