-- What a listing leaves in its list shows the claim's part of each row.
-- Assumes nothing.
use Rattle.std.proofs.Common.{◌≡◌, ℕ, ◌+◌, ◌*◌, eqb, List, [], ◌∷◌, ◌++◌, length, drop, ℤ, pos, ◌+ℤ◌, ◌*ℤ◌, refl, ap}
use Rattle.basics.specs.Pick.{pick}
use Rattle.claim_months.specs.Exposure.{MonthRecord, thirtieths, weighted, closings}
use Rattle.claim_months.specs.Durations.{is_number}
use Rattle.claim_months.specs.Listing.{row, rows, listed_records, list_after}
use Rattle.by_duration.specs.Rows.{row_exposure, row_closings, row_expected, row_figure}
use Rattle.by_duration.specs.ListedRows.{listed_weighted, listed_closings, listed_figure, ListedRows}

rows-weighted : (w : ℕ → ℤ) (rs : List MonthRecord) (rest : List ℤ) → listed_weighted w (rows rs ++ rest) (length rs) ≡ weighted w rs
unfolding listed_weighted rows row weighted
rows-weighted w [] rest = refl
rows-weighted w (r ∷ rs) rest = ap (λ (z : ℤ). w r.duration *ℤ thirtieths r +ℤ z) (rows-weighted w rs rest)

rows-closings : (w : ℕ → ℕ → ℕ) (rs : List MonthRecord) (rest : List ℤ) → listed_closings w (rows rs ++ rest) (length rs) ≡ closings w rs
unfolding listed_closings is_number rows row closings
rows-closings w [] rest = refl
rows-closings w (r ∷ rs) rest = ap (λ (m : ℕ). pick (eqb r.category 0) 0 (w r.duration r.category) + m) (rows-closings w rs rest)

pub listed-rows : ListedRows
unfolding list_after listed_figure row_figure row_exposure row_closings row_expected
listed-rows b e c old h recovery death n r column =
    let rs = listed_records b e c in
    let rest = drop (6 * length rs) old in
    rw (h, rows-closings _ rs rest, rows-weighted _ rs rest, rows-weighted _ rs rest, rows-weighted _ rs rest) refl
