-- With rates 64 bits hold every number of the rows, and their prepared table gives the same rows.
-- Assumes nothing.
use Rattle.std.proofs.Common.{◌≡◌, ℕ, zero, suc, ◌+◌, ◌*◌, ◌≤◌, Bool, eqb, List, [], ◌∷◌, ◌++◌, map, length, ℤ, pos, ◌+ℤ◌, nat_abs, sym, refl, ap, ◌∙◌, ap₂, mul-le-mul, mul-le-mul_left, mul-one, mul-add}
use mathlib.Core.Path.{fun_ext}
use Rattle.basics.specs.Pick.{pick}
use Rattle.basics.specs.Tables.{table}
use Rattle.basics.proofs.Tests.{tests, by}
use Rattle.basics.proofs.Tables.{table_same}
use Rattle.basics.proofs.Integers.{size-sum}
use Rattle.claim_months.specs.declared.Claim.{Claim}
use Rattle.claim_months.specs.declared.Window.{Window}
use Rattle.claim_months.specs.Claim.{category}
use Rattle.claim_months.specs.Exposure.{closed_in, month_records, weighted, closings}
use Rattle.claim_months.proofs.Sound.{Sound}
use Rattle.claim_months.proofs.SpanAnswers.{exposed}
use Rattle.claim_months.proofs.Ranges.{weighted-size}
use Rattle.claim_months.proofs.Closing.{closings-value, closing_duration}
use Rattle.rates.specs.declared.Kind.TheVariants.{Plain, Prepared}
use Rattle.rates.specs.design.Prepared.{table_check_of, recovery_of, death_of, prepared_of}
use Rattle.rates.proofs.Laws.{recovery-bound, death-bound}
use Rattle.rates.proofs.SameTable.{same-table}
use Rattle.study.specs.Sums.{column_at, is_count}
use Rattle.study.specs.Study.{sum_over}
use Rattle.study.specs.design.Private.{column_rate}
use Rattle.study.proofs.SumOver.{All}
use Rattle.claim_file.specs.Runs.{FileRun}
use Rattle.claim_file.proofs.SameRuns.{same_runs}
use Rattle.by_duration.specs.Rows.{row_at, row_figure, claim_figure, row_sum, rows_over}
use Rattle.by_duration.specs.Wrapped.{as64}
use Rattle.by_duration.specs.DurationRuns.{taken_claims, run_for, duration_rows, head_numbers, duration_numbers}
use Rattle.by_duration.specs.SameRows.{SameRows}
use Rattle.by_duration.proofs.Wraps.{as64-small}
use Rattle.by_duration.proofs.Figures.{figure_in, picked, picked_closing, of_row, row-figure}
use Rattle.by_duration.proofs.FileTakes.{Passes, claims, window, run-passes, run-limit}

-- ---- sizes

-- a weight where a test picks the duration is no larger than the weight
picked-size : (t : ℕ → Bool) (w : ℕ → ℤ) (m : ℕ) → ((d : ℕ) → nat_abs (w d) ≤ m) → (d : ℕ) → nat_abs (picked t w d) ≤ m
picked-size t w m h d = by (t d) (λ u. nat_abs (pick u (w d) (pos 0)) ≤ m) (λ _. h d) (λ _. omega tests)

rate-size : (recovery death : ℕ → ℤ) → ((d : ℕ) → nat_abs (recovery d) ≤ 1000000) → ((d : ℕ) → nat_abs (death d) ≤ 1000000) → (column d : ℕ)
    → nat_abs (column_rate recovery death column d) ≤ 1000000
unfolding column_rate
rate-size recovery death p q column d =
    by (eqb column 0) (λ u. nat_abs (pick u (λ d. pos 1) (pick (eqb column 6) recovery death) d) ≤ 1000000) (λ _. omega tests)
    (λ _. by (eqb column 6) (λ u. nat_abs (pick u recovery death d) ≤ 1000000) (λ _. p d) (λ _. q d))

one-or-none : (t : Bool) → pick t 1 0 ≤ 1
one-or-none t = by t (λ u. pick u 1 0 ≤ 1) (λ _. omega tests) (λ _. omega tests)

figure-size : (t : ℕ → Bool) (recovery death : ℕ → ℤ) → ((d : ℕ) → nat_abs (recovery d) ≤ 1000000) → ((d : ℕ) → nat_abs (death d) ≤ 1000000)
    → (column : ℕ) (c : Claim) → Sound c → (b e : ℕ) → nat_abs (figure_in t recovery death column (month_records c b e)) ≤ 54000000000
unfolding figure_in
figure-size t recovery death p q column c ok b e =
    let rs = month_records c b e in
    let v = picked_closing t column in
    by (is_count column) (λ u. nat_abs (pick u (pos (closings v rs)) (weighted (picked t (column_rate recovery death column)) rs)) ≤ 54000000000)
    (λ _.
    let m : v (closing_duration c) (category c) ≤ 1 = mul-le-mul (one-or-none (t (closing_duration c))) (one-or-none (eqb (category c) column)) in
    rw (closings-value c ok v b e) (by (closed_in c b e) (λ u. pick u (v (closing_duration c) (category c)) 0 ≤ 54000000000) (λ _. omega tests) (λ _. omega tests)))
    (λ _. weighted-size (picked t (column_rate recovery death column)) 1000000 (picked-size t _ 1000000 (rate-size recovery death p q column)) c b e)

sum-size : (P : Claim → Type 0) (f : Claim → ℤ) (m : ℕ) → ((c : Claim) → P c → nat_abs (f c) ≤ m) → (cs : List Claim) → All P cs
    → nat_abs (sum_over ◌+ℤ◌ (pos 0) f cs) ≤ m * length cs
unfolding sum_over
sum-size P f m h [] a = omega tests
sum-size P f m h (c ∷ cs) a =
    let s = size-sum (f c) (sum_over ◌+ℤ◌ (pos 0) f cs) in
    let i = sum-size P f m h cs a.1 in
    let one = h c a.0 in
    let k : suc (length cs) ≡ 1 + length cs = omega tests in
    let e : m * suc (length cs) ≡ m + m * length cs = ap (λ (x : ℕ). m * x) k ∙ mul-add m 1 (length cs) ∙ ap (λ (x : ℕ). x + m * length cs) (mul-one m) in
    rw e (omega tests)

-- ---- the rows

pub map-table : (f : ℤ → ℤ) (n : ℕ) (g : ℕ → ℤ) → map f (table n g) ≡ table n (λ k. f (g k))
unfolding table
map-table f zero g = refl
map-table f (suc n) g = ap (λ (xs : List ℤ). f (g 0) ∷ xs) (map-table f n (λ k. g (suc k)))

pub over-same : (P : Claim → Type 0) (f g : Claim → ℤ) → ((c : Claim) → P c → f c ≡ g c) → (cs : List Claim) → All P cs
    → sum_over ◌+ℤ◌ (pos 0) f cs ≡ sum_over ◌+ℤ◌ (pos 0) g cs
unfolding sum_over
over-same P f g h [] a = refl
over-same P f g h (c ∷ cs) a = ap₂ ◌+ℤ◌ (h c a.0) (over-same P f g h cs a.1)

module _ (n : ℕ) (rates bytes : List ℕ) where
  abbrev w : Window
  w = window Plain rates bytes

  abbrev cs : List Claim
  cs = claims Plain rates bytes

  claim-size : (r column : ℕ) (c : Claim) → Passes Plain rates w c → nat_abs (claim_figure Plain n w rates r column c) ≤ 54000000000
  unfolding claim_figure recovery_of death_of table_check_of
  claim-size r column c p =
      rw (row-figure (recovery_of Plain rates c.cell) (death_of Plain rates c.cell) n r column (month_records c w.first.0 w.last.0))
      (figure-size (of_row n r) (recovery_of Plain rates c.cell) (death_of Plain rates c.cell) (λ d. recovery-bound rates c.cell d p.rated)
      (λ d. death-bound rates c.cell d p.rated) column c (exposed c w.first.0 w.last.0 p.exposed).0 w.first.0 w.last.0)

  small : (r column : ℕ) → nat_abs (row_sum Plain n w rates r column cs) ≤ 9223372036854775807
  unfolding row_sum
  small r column =
      let s = sum-size (Passes Plain rates w) (claim_figure Plain n w rates r column) 54000000000 (claim-size r column) cs (run-passes Plain rates bytes) in
      let l : 54000000000 * length cs ≤ 54000000000 * 500000 = mul-le-mul_left 54000000000 (run-limit Plain rates bytes) in
      omega tests

  fits : map as64 (duration_rows Plain n rates bytes) ≡ duration_rows Plain n rates bytes
  unfolding duration_rows rows_over
  fits = map-table as64 (8 * n) _ ∙ table_same (8 * n) _ _ (λ k _. as64-small _ (small (row_at k) (column_at k)))

  same-run : run_for Prepared (prepared_of rates) bytes ≡ run_for Plain rates bytes
  same-run = (same_runs rates bytes).prepared_run ∙ sym (same_runs rates bytes).plain_run

  same-figure : (r column : ℕ) (c : Claim) → Passes Plain rates w c → claim_figure Prepared n w (prepared_of rates) r column c ≡ claim_figure Plain n w rates r column c
  unfolding claim_figure
  same-figure r column c p =
      ap₂ (λ (x y : ℕ → ℤ). row_figure x y n r column (month_records c w.first.0 w.last.0))
      (fun_ext (λ d. (same-table rates).same_recovery c.cell d p.rated)) (fun_ext (λ d. (same-table rates).same_death c.cell d p.rated))

  prepared_rows : duration_rows Prepared n (prepared_of rates) bytes ≡ duration_rows Plain n rates bytes
  unfolding duration_rows rows_over row_sum
  prepared_rows =
      ap (λ (x : FileRun). rows_over Prepared n x.study.window (prepared_of rates) (taken_claims bytes x)) same-run
      ∙ table_same (8 * n) _ _
      (λ k _.
      over-same (Passes Plain rates w) (claim_figure Prepared n w (prepared_of rates) (row_at k) (column_at k)) (claim_figure Plain n w rates (row_at k) (column_at k))
      (same-figure (row_at k) (column_at k)) cs (run-passes Plain rates bytes))

  pub same_rows : SameRows n rates bytes
  unfolding duration_numbers
  same_rows =
      record {
        fits = fits;
        prepared_rows = prepared_rows;
        prepared = ap₂ (λ (x : FileRun) (rows : List ℤ). head_numbers x ++ map as64 rows) same-run prepared_rows;
      }
