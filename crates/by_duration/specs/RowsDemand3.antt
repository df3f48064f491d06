-- Demand 3 for the rows: the parts of a window total it at every duration.
use Rattle.std.specs.Prelude.{◌≡◌, ℕ, ◌+◌, List, ◌++◌, get_or, ℤ, pos, ◌+ℤ◌, slice_index_or}
use Rattle.claim_months.specs.Windows.{Parts, total, EveryPart}
use Rattle.rates.specs.declared.Kind.TheVariants.{Plain}
use Rattle.claim_file.specs.declared.WindowDates.{WindowDates}
use Rattle.claim_file.specs.Block.{window_bytes}
use Rattle.claim_file.specs.Files.{run_of, Accepts, window_days, SameEnd}
use Rattle.by_duration.specs.DurationRuns.{duration_rows}

-- the rows of the file with a window in block 0 and any bytes behind it
unfoldable pub rows_for : List ℕ → List ℕ → ℕ → WindowDates → List ℤ
rows_for rates rest n w = duration_rows Plain n rates (window_bytes w.first w.last ++ rest)

-- Demand 3 for the rows: cut the window, and each number of the parts' rows totals that of the whole, with the same answers everywhere
pub record RowsAddUp (rates rest : List ℕ) (n : ℕ) (whole part : WindowDates) (parts : List WindowDates) : Type 0 where
  pub same_end : EveryPart (λ w. SameEnd (run_of rates rest w) (run_of rates rest whole)) part parts
  pub rows : (k : ℕ) → total ◌+ℤ◌ (λ w. get_or (rows_for rates rest n w) k (pos 0)) part parts ≡ slice_index_or (rows_for rates rest n whole) k (pos 0)

-- it holds of every rate table, every file behind block 0, sound or not, and every way to cut a window; `proofs/RowsDemand3.antt` proves it
abbrev pub RowsDemand3 : Type 0
RowsDemand3 =
    (rates rest : List ℕ) (n : ℕ) (whole part : WindowDates) (parts : List WindowDates) → Accepts whole
    → Parts Accepts window_days (window_days whole).first.0 (window_days whole).last.0 part parts → RowsAddUp rates rest n whole part parts
