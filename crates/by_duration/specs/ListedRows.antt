-- A listing shows its claim's part of each row.
use Rattle.std.specs.Prelude.{◌≡◌, ℕ, zero, suc, ◌+◌, ◌*◌, List, length, drop, ℤ, pos, ◌+ℤ◌, ◌*ℤ◌, ◌==◌, slice_index_or, unsigned_abs}
use Rattle.basics.specs.Pick.{pick}
use Rattle.calendar.specs.declared.Date.{Date}
use Rattle.claim_months.specs.declared.Claim.{Claim}
use Rattle.claim_months.specs.Durations.{is_number}
use Rattle.claim_months.specs.Listing.{listed_records, listing_check, list_after}
use Rattle.study.specs.Sums.{is_count}
use Rattle.by_duration.specs.Rows.{in_row, row_weight, row_figure}

-- Over the first m rows of a listing, six numbers each: the sum of thirtieths, the fourth number, each times a weight of its duration, the first ..
unfoldable pub listed_weighted : (ℕ → ℤ) → List ℤ → ℕ → ℤ
listed_weighted w xs zero = pos 0
listed_weighted w xs (suc m) = w (unsigned_abs (slice_index_or xs 0 (pos 0))) *ℤ slice_index_or xs 3 (pos 0) +ℤ listed_weighted w (drop 6 xs) m

-- .. and the sum over those with a category, the sixth number, of a weight of duration and category
unfoldable pub listed_closings : (ℕ → ℕ → ℕ) → List ℤ → ℕ → ℕ
listed_closings w xs zero = 0
listed_closings w xs (suc m) =
    pick (is_number (slice_index_or xs 5 (pos 0)) 0) 0 (w (unsigned_abs (slice_index_or xs 0 (pos 0))) (unsigned_abs (slice_index_or xs 5 (pos 0)))) + listed_closings w (drop 6 xs) m

-- the figure of a row and column that a listing of m rows shows
unfoldable pub listed_figure : (ℕ → ℤ) → (ℕ → ℤ) → ℕ → ℕ → ℕ → List ℤ → ℕ → ℤ
listed_figure recovery death n r column xs m =
    pick (is_count column) (pos (listed_closings (λ d y. in_row n r d * pick (y == column) 1 0) xs m))
    (pick (column == 0) (listed_weighted (row_weight n r (λ d. pos 1)) xs m)
    (pick (column == 6) (listed_weighted (row_weight n r recovery) xs m) (listed_weighted (row_weight n r death) xs m)))

-- What a listing that isn't refused leaves in its list shows the claim's part of each row; `proofs/ListedRows.antt` proves it
abbrev pub ListedRows : Type 0
ListedRows =
    (b e : Date) (c : Claim) (old : List ℤ) → listing_check b e c (length old) ≡ 0 → (recovery death : ℕ → ℤ) (n r column : ℕ)
    → listed_figure recovery death n r column (list_after b e c old) (length (listed_records b e c))
    ≡ row_figure recovery death n r column (listed_records b e c)
