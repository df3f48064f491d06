-- What the private functions of this layer answer: rows raised by amounts, and a span's part of them.
use Rattle.std.specs.Prelude.{◌≡◌, ℕ, ◌+◌, ◌*◌, ◌<◌, ◌≤◌, Bool, ◌&&◌, List, length, ℤ, pos, ◌+ℤ◌, FitsSigned, ◌==◌, nat_le, slice_index_or}
use Rattle.std.specs.Int.{w64}
use Rattle.basics.specs.Limits.{cell_numbers}
use Rattle.basics.specs.Pick.{pick}
use Rattle.basics.specs.Tables.{table}
use Rattle.claim_months.specs.declared.Claim.{Claim}
use Rattle.claim_months.specs.declared.Span.{Span}
use Rattle.claim_months.specs.declared.Window.{Window}
use Rattle.claim_months.specs.Span.{span_weighted, span_closing, exposure_check}
use Rattle.rates.specs.declared.Kind.{Kind}
use Rattle.rates.specs.declared.Kind.TheVariants.{Prepared}
use Rattle.rates.specs.design.Prepared.{recovery_of, death_of}
use Rattle.study.specs.Sums.{column_at, is_count}
use Rattle.study.specs.Study.{sum_over}
use Rattle.study.specs.design.Private.{column_rate}
use Rattle.by_duration.specs.Rows.{row_at, in_row, row_weight, claim_figure}
use Rattle.by_duration.specs.Wrapped.{as64}

-- 64 bits hold every number of a list
abbrev pub Fit : List ℤ → Type 0
Fit s = (k : ℕ) → k < length s → FitsSigned w64 (slice_index_or s k (pos 0))

-- amounts by row and column
abbrev pub Amounts : Type 0
Amounts = ℕ → ℕ → ℤ

-- rows raised by amounts, modulo 2⁶⁴
unfoldable pub raised_by : List ℤ → Amounts → List ℤ
raised_by rows f = table (length rows) (λ k. as64 (slice_index_or rows k (pos 0) +ℤ f (row_at k) (column_at k)))

-- one month: its thirtieths, and these times both rates, in its row
unfoldable pub month_amount : ℕ → ℤ → ℤ → ℤ → Amounts
month_amount row thirtieths recoveries deaths r column =
    pick (row == r) (pick (column == 0) thirtieths (pick (column == 6) recoveries (pick (column == 7) deaths (pos 0)))) (pos 0)

-- the first m months of a span, and its closing
unfoldable pub span_months : (ℕ → ℤ) → (ℕ → ℤ) → ℕ → Span → ℕ → Amounts
span_months recovery death n sp m r column =
    pick (is_count column) (pos 0) (span_weighted (row_weight n r (column_rate recovery death column)) sp m)

-- The months of a span from its second on and before another are whole, of 30 thirtieths, with a rate that is the difference of two running sums of a
-- prepared part, and with a row of their own
pub record WholeTo (kind : Kind) (part : List ℕ) (n : ℕ) (sp : Span) (to : ℕ) : Type 0 where
  pub low : 1 ≤ to
  pub high : to ≤ sp.months
  pub prepared : 1 < to → kind ≡ Prepared
  pub part_long : 1 < to → length part ≡ cell_numbers
  pub before_last : 1 < to → to < sp.months
  pub with_rates : 1 < to → sp.first.0 + to ≤ 481
  pub with_rows : 1 < to → sp.first.0 + to ≤ n + 1

unfoldable pub span_closings : ℕ → Span → Amounts
span_closings n sp r column = pick (is_count column) (pos (span_closing (λ d y. in_row n r d * pick (y == column) 1 0) sp)) (pos 0)

-- a span with a table's rates of a cell, if the table has all of the cell's numbers
unfoldable pub has_cell : List ℕ → ℕ → Bool
has_cell table cell = nat_le (cell * cell_numbers + cell_numbers) (length table)

unfoldable pub span_figure : Kind → ℕ → List ℕ → ℕ → Span → Amounts
span_figure kind n table cell sp r column =
    pick (has_cell table cell)
    (span_months (recovery_of kind table cell) (death_of kind table cell) n sp sp.months r column +ℤ span_closings n sp r column) (pos 0)

-- a claim's figures if it passes the checks 1 to 5 and the table has its cell
unfoldable pub checked_figure : Kind → ℕ → Window → List ℕ → Claim → Amounts
checked_figure kind n w table c r column =
    pick (exposure_check c w.first.0 w.last.0 == 0 && has_cell table c.cell) (claim_figure kind n w table r column c) (pos 0)

-- the same of some claims together
unfoldable pub checked_sum : Kind → ℕ → Window → List ℕ → List Claim → Amounts
checked_sum kind n w table claims r column = sum_over ◌+ℤ◌ (pos 0) (λ c. checked_figure kind n w table c r column) claims
