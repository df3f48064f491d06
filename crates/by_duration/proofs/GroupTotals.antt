-- Each group of a file's study is the total of its rows.
-- Assumes nothing.
use Rattle.std.proofs.Common.{◌≡◌, ℕ, zero, suc, ◌+◌, ◌-◌, ◌*◌, ◌<◌, ◌≤◌, min, ltb, leb, List, [], ◌∷◌, get_or, ℤ, pos, ◌+ℤ◌, ◌*ℤ◌, sym, refl, ap, ◌∙◌, ap₂, lt-ltb, le-leb}
use mathlib.Core.Path.{fun_ext}
use lib.IntN.{+ℤ_idl, suc_ℤ-*ℤ, zero-*ℤ}
use Rattle.basics.specs.Limits.{most_rows}
use Rattle.basics.specs.Series.{sum_to}
use Rattle.basics.proofs.Tests.{tests, by}
use Rattle.basics.proofs.Tables.{table_at}
use Rattle.basics.proofs.Integers.{interchange}
use Rattle.claim_months.specs.declared.Claim.{Claim}
use Rattle.claim_months.specs.declared.Window.{Window}
use Rattle.claim_months.specs.Claim.{weight}
use Rattle.claim_months.specs.Exposure.{month_records}
use Rattle.claim_months.proofs.Spans.{sum_same}
use Rattle.rates.specs.declared.Kind.{Kind}
use Rattle.rates.specs.Rates.{last_of}
use Rattle.rates.specs.design.Prepared.{recovery_of, death_of}
use Rattle.study.specs.Sums.{group_at, column_at, times_at, sum_at}
use Rattle.study.specs.Study.{sum_over, figure}
use Rattle.study.specs.design.PreparedAdding.{share_with}
use Rattle.study.proofs.Capacity.{records-at}
use Rattle.by_duration.specs.Rows.{row_at, claim_figure, row_sum, rows_over}
use Rattle.by_duration.specs.DurationRuns.{duration_rows}
use Rattle.by_duration.specs.GroupTotals.{row_number, first_of, group_rows, rows_total, GroupTotals}
use Rattle.by_duration.proofs.SpanRows.{once}
use Rattle.by_duration.proofs.RowGroups.{rows-group, five}
use Rattle.by_duration.proofs.FileTakes.{claims, window, run-shares}

-- ---- sums over claims and rows in either order

sum-plus : (f g : ℕ → ℤ) (n : ℕ) → sum_to (λ j. f j +ℤ g j) n ≡ sum_to f n +ℤ sum_to g n
unfolding sum_to
sum-plus f g zero = refl
sum-plus f g (suc n) = ap (λ (z : ℤ). z +ℤ (f n +ℤ g n)) (sum-plus f g n) ∙ interchange (sum_to f n) (sum_to g n) (f n) (g n)

sum_zeros : (n : ℕ) → sum_to (λ j. pos 0) n ≡ pos 0
unfolding sum_to
sum_zeros zero = refl
sum_zeros (suc n) = ap (λ (z : ℤ). z +ℤ pos 0) (sum_zeros n)

sum-claims : (f : ℕ → Claim → ℤ) (n : ℕ) (cs : List Claim)
    → sum_to (λ j. sum_over ◌+ℤ◌ (pos 0) (f j) cs) n ≡ sum_over ◌+ℤ◌ (pos 0) (λ c. sum_to (λ j. f j c) n) cs
unfolding sum_over
sum-claims f n [] = sum_zeros n
sum-claims f n (c ∷ cs) =
    sum-plus (λ j. f j c) (λ j. sum_over ◌+ℤ◌ (pos 0) (f j) cs) n ∙ ap (λ (z : ℤ). sum_to (λ j. f j c) n +ℤ z) (sum-claims f n cs)

-- ---- the rows of some claims

rows_at : (kind : Kind) (n : ℕ) (w : Window) (table : List ℕ) (cs : List Claim) (r column : ℕ) → 1 ≤ r → r ≤ n → column < 8
    → row_number (rows_over kind n w table cs) r column ≡ row_sum kind n w table r column cs
unfolding rows_over
rows_at kind n w table cs r column low high h =
    let k = 8 * (r - 1) + column in
    let row : row_at k ≡ r = omega tests in
    let col : column_at k ≡ column = omega tests in
    table_at (8 * n) _ k (pos 0) (omega tests) ∙ ap₂ (λ (x y : ℕ). row_sum kind n w table x y cs) row col

first_low : (g : ℕ) → 1 ≤ g → g ≤ 5 → 1 ≤ first_of g
unfolding first_of last_of
first_low = five (λ g. 1 ≤ first_of g) (omega tests) (omega tests) (omega tests) (omega tests) (omega tests)

group-total : (kind : Kind) (n : ℕ) (w : Window) (table : List ℕ) (cs : List Claim) (g column : ℕ) → n ≤ most_rows → 1 ≤ g → g ≤ 5 → column < 8 → last_of (min g 4) < n
    → rows_total (rows_over kind n w table cs) n g column
    ≡ sum_over ◌+ℤ◌ (pos 0) (λ c. figure (recovery_of kind table c.cell) (death_of kind table c.cell) g column (month_records c w.first.0 w.last.0)) cs
unfolding rows_total group_rows row_sum claim_figure
group-total kind n w table cs g column hn low high h l =
    let m = min (last_of g) n + 1 - first_of g in
    let one = first_low g low high in
    sum_same _ _ m (λ j q. rows_at kind n w table cs (first_of g + j) column (omega tests) (omega tests) h)
    ∙ sum-claims (λ j c. claim_figure kind n w table (first_of g + j) column c) m cs
    ∙ ap (λ (f : Claim → ℤ). sum_over ◌+ℤ◌ (pos 0) f cs) (fun_ext (λ c. rows-group (recovery_of kind table c.cell) (death_of kind table c.cell) n g column c w.first.0 w.last.0 hn low high l))

-- ---- the group's place in a study

share-place : (kind : Kind) (w : Window) (table : List ℕ) (g column : ℕ) → 1 ≤ g → g ≤ 5 → column < 8 → (c : Claim)
    → get_or (share_with kind w table c) (8 * (g - 1) + column) (pos 0)
    ≡ figure (recovery_of kind table c.cell) (death_of kind table c.cell) g column (month_records c w.first.0 w.last.0)
unfolding share_with times_at
share-place kind w table g column low high h c =
    let k = 8 * (g - 1) + column in
    let rs = month_records c w.first.0 w.last.0 in
    let group : group_at k ≡ g = omega tests in
    let col : column_at k ≡ column = omega tests in
    records-at _ _ (weight c) rs k (omega tests)
    ∙ rw (lt-ltb k 40 (omega tests))
    (once (figure (recovery_of kind table c.cell) (death_of kind table c.cell) (group_at k) (column_at k) rs)
    ∙ ap₂ (λ (x y : ℕ). figure (recovery_of kind table c.cell) (death_of kind table c.cell) x y rs) group col)

pub group-totals : GroupTotals
unfolding duration_rows sum_at
group-totals kind table bytes n g column hn low high h l =
    let w = window kind table bytes in
    group-total kind n w table (claims kind table bytes) g column hn low high h l
    ∙ sym
    (rw (le-leb 1 g low, le-leb g 5 high, lt-ltb column 8 h)
    (run-shares kind table bytes (8 * (g - 1) + column) (omega tests)
    ∙ ap (λ (f : Claim → ℤ). sum_over ◌+ℤ◌ (pos 0) f (claims kind table bytes)) (fun_ext (share-place kind w table g column low high h))))
