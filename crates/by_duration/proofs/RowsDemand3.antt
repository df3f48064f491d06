-- Demand 3 for the rows: over the parts of a window each number of the rows totals that of the whole.
-- Assumes nothing.
use Rattle.std.proofs.Common.{◌≡◌, ℕ, ◌+◌, ◌*◌, ◌<◌, ◌≤◌, ltb, List, [], ◌∷◌, ◌++◌, length, get_or, take, drop, ℤ, pos, ◌+ℤ◌, sym, refl, ap, ◌∙◌, subst, ap₂, length-append, drop_of_length-le, take_at}
use mathlib.Core.Path.{fun_ext}
use lib.Seq.{drop-append-le}
use Rattle.basics.specs.Pick.{pick}
use Rattle.basics.proofs.Tests.{tests, by}
use Rattle.basics.proofs.Tables.{table_at, table-past}
use Rattle.basics.proofs.Integers.{interchange}
use Rattle.claim_months.specs.declared.Claim.{Claim}
use Rattle.claim_months.specs.declared.Window.{Window}
use Rattle.claim_months.specs.Exposure.{month_records, weighted, closings}
use Rattle.claim_months.specs.Windows.{total}
use Rattle.claim_months.proofs.Sound.{Sound}
use Rattle.claim_months.proofs.SpanAnswers.{exposed}
use Rattle.claim_months.proofs.Additive.{cut-weighted}
use Rattle.claim_months.proofs.Closing.{cut-closings}
use Rattle.claim_months.proofs.Parts.{SoundParts, parts-map, parts-every, every_map, total-same, parts_total}
use Rattle.rates.specs.declared.Kind.TheVariants.{Plain}
use Rattle.rates.specs.design.Prepared.{recovery_of, death_of}
use Rattle.study.specs.Sums.{column_at, is_count}
use Rattle.study.specs.Study.{sum_over, study_of}
use Rattle.study.specs.design.Private.{column_rate}
use Rattle.study.proofs.SumOver.{All}
use Rattle.claim_file.specs.Runs.{FileRun}
use Rattle.claim_file.specs.declared.WindowDates.{WindowDates}
use Rattle.claim_file.specs.Bytes.{byte_at}
use Rattle.claim_file.specs.Block.{claim_count, sealed, window_bytes}
use Rattle.claim_file.specs.Files.{run_of, claims_of_block, file_claims, Accepts, window_days}
use Rattle.claim_file.proofs.Files.{fed_plain, first, with_study, sound-days, run-plain, window-length, files-demand-3}
use Rattle.claim_file.proofs.SameRuns.{same_runs}
use Rattle.by_duration.specs.Rows.{row_at, row_figure, claim_figure, row_sum, rows_over}
use Rattle.by_duration.specs.DurationRuns.{taken_claims, run_for, duration_rows}
use Rattle.by_duration.specs.RowsDemand3.{rows_for, RowsDemand3}
use Rattle.by_duration.proofs.Figures.{figure_in, picked, picked_closing, of_row, row-figure}
use Rattle.by_duration.proofs.Takes.{in_block, first_block}
use Rattle.by_duration.proofs.FileTakes.{Passes, claims, window, run-passes}

-- ---- one claim

cut-row : (recovery death : ℕ → ℤ) (n r column : ℕ) (c : Claim) → Sound c → (b m e : ℕ) → b ≤ m → m < e
    → row_figure recovery death n r column (month_records c b m) +ℤ row_figure recovery death n r column (month_records c (m + 1) e)
    ≡ row_figure recovery death n r column (month_records c b e)
unfolding figure_in
cut-row recovery death n r column c ok b m e bm me =
    let one = month_records c b m in
    let other = month_records c (m + 1) e in
    let both = month_records c b e in
    let v = picked_closing (of_row n r) column in
    let w = picked (of_row n r) (column_rate recovery death column) in
    ap₂ ◌+ℤ◌ (row-figure recovery death n r column one) (row-figure recovery death n r column other)
    ∙ by (is_count column)
    (λ t. pick t (pos (closings v one)) (weighted w one) +ℤ pick t (pos (closings v other)) (weighted w other) ≡ pick t (pos (closings v both)) (weighted w both))
    (λ _. ap pos (cut-closings c ok v b m e bm me)) (λ _. cut-weighted c ok w b m e bm me)
    ∙ sym (row-figure recovery death n r column both)

-- ---- claims and parts in either order

module _ {A : Type 0} where
  total-plus : (f g : A → ℤ) (w : A) (ws : List A) → total ◌+ℤ◌ (λ v. f v +ℤ g v) w ws ≡ total ◌+ℤ◌ f w ws +ℤ total ◌+ℤ◌ g w ws
  unfolding total
  total-plus f g w [] = refl
  total-plus f g w (v ∷ ws) =
      ap (λ (z : ℤ). (f w +ℤ g w) +ℤ z) (total-plus f g v ws) ∙ interchange (f w) (g w) (total ◌+ℤ◌ f v ws) (total ◌+ℤ◌ g v ws)

  total-none : (w : A) (ws : List A) → total ◌+ℤ◌ (λ v. pos 0) w ws ≡ pos 0
  unfolding total
  total-none w [] = refl
  total-none w (v ∷ ws) = ap (λ (z : ℤ). pos 0 +ℤ z) (total-none v ws)

  total-claims : (P : Claim → Type 0) (f : A → Claim → ℤ) (g : Claim → ℤ) (w : A) (ws : List A) → ((c : Claim) → P c → total ◌+ℤ◌ (λ v. f v c) w ws ≡ g c)
      → (cs : List Claim) → All P cs → total ◌+ℤ◌ (λ v. sum_over ◌+ℤ◌ (pos 0) (f v) cs) w ws ≡ sum_over ◌+ℤ◌ (pos 0) g cs
  unfolding sum_over
  total-claims P f g w ws h [] a = total-none w ws
  total-claims P f g w ws h (c ∷ cs) a =
      total-plus (λ v. f v c) (λ v. sum_over ◌+ℤ◌ (pos 0) (f v) cs) w ws ∙ ap₂ ◌+ℤ◌ (h c a.0) (total-claims P f g w ws h cs a.1)

-- ---- the files

all_map : (P Q : Claim → Type 0) → ((c : Claim) → P c → Q c) → (cs : List Claim) → All P cs → All Q cs
all_map P Q f [] a = tt
all_map P Q f (c ∷ cs) a = (f c a.0, all_map P Q f cs a.1)

module _ (rates rest : List ℕ) where
  -- as many claims are taken with every window
  abbrev taken : ℕ
  taken = length (fed_plain rates first rest).claims

  abbrev cs : List Claim
  cs = take taken (file_claims rest)

  module _ (w : WindowDates) (ok : Accepts w) where
    abbrev head : List ℕ
    head = window_bytes w.first w.last

    abbrev run : FileRun
    run = run_for Plain rates (head ++ rest)

    run_is : run ≡ with_study rates (window_days w) (sound-days rates w ok) (fed_plain rates first rest)
    unfolding run_of
    run_is = (same_runs rates (head ++ rest)).plain_run ∙ run-plain rates w ok rest

    days : run.study.window ≡ window_days w
    unfolding with_study study_of
    days = ap (λ (r : FileRun). r.study.window) run_is

    count : run.study.taken ≡ taken
    unfolding with_study study_of
    count = ap (λ (r : FileRun). r.study.taken) run_is

    no-claims : claim_count head ≡ 0
    unfolding claim_count byte_at window_bytes sealed
    no-claims = refl

    claims-are : file_claims (head ++ rest) ≡ file_claims rest
    unfolding claims_of_block
    claims-are =
        let l = window-length w.first w.last in
        let n = length-append head rest in
        let t : take 512 (head ++ rest) ≡ head = take_at head rest 512 l in
        let none : in_block head ≡ [] = ap (claims_of_block head 0) no-claims in
        let d : drop 512 (head ++ rest) ≡ rest = drop-append-le 512 head rest (omega tests) ∙ ap (λ (xs : List ℕ). xs ++ rest) (drop_of_length-le head {i = 512} (omega tests)) in
        first_block (head ++ rest) (omega tests) ∙ ap₂ (λ (xs : List Claim) (ys : List Claim). xs ++ ys) (ap in_block t ∙ none) (ap file_claims d)

    rows_are : (n : ℕ) → rows_for rates rest n w ≡ rows_over Plain n (window_days w) rates cs
    unfolding rows_for duration_rows taken_claims
    rows_are n = λ i. rows_over Plain n (days i) rates (take (count i) (claims-are i))

    -- and each of them is a sound claim
    all_sound : All Sound cs
    unfolding taken_claims
    all_sound =
        subst (λ (xs : List Claim). All Sound xs) (λ i. take (count i) (claims-are i))
        (all_map (Passes Plain rates (window Plain rates (head ++ rest))) Sound
        (λ c p. (exposed c run.study.window.first.0 run.study.window.last.0 p.exposed).0) (claims Plain rates (head ++ rest)) (run-passes Plain rates (head ++ rest)))

  -- the number at a place
  number_at : (n k : ℕ) (w : Window) → k < 8 * n → get_or (rows_over Plain n w rates cs) k (pos 0) ≡ row_sum Plain n w rates (row_at k) (column_at k) cs
  unfolding rows_over
  number_at n k w h = table_at (8 * n) _ k (pos 0) h

  none-past : (n k : ℕ) (w : Window) → 8 * n ≤ k → get_or (rows_over Plain n w rates cs) k (pos 0) ≡ pos 0
  unfolding rows_over
  none-past n k w h = table-past (8 * n) _ k (pos 0) h

  module _ (whole part : WindowDates) (parts : List WindowDates) (ok : Accepts whole)
      (p : SoundParts window_days (window_days whole).first.0 (window_days whole).last.0 part parts) (n : ℕ) where
    abbrev rows_in : WindowDates → List ℤ
    rows_in w = rows_over Plain n (window_days w) rates cs

    sum-total : (r column : ℕ) → total ◌+ℤ◌ (λ w. row_sum Plain n (window_days w) rates r column cs) part parts ≡ row_sum Plain n (window_days whole) rates r column cs
    unfolding row_sum claim_figure
    sum-total r column =
        total-claims Sound (λ w c. claim_figure Plain n (window_days w) rates r column c) (claim_figure Plain n (window_days whole) rates r column) part parts
        (λ c s.
        parts_total window_days ◌+ℤ◌ (λ b e. row_figure (recovery_of Plain rates c.cell) (death_of Plain rates c.cell) n r column (month_records c b e))
        (cut-row (recovery_of Plain rates c.cell) (death_of Plain rates c.cell) n r column c s) (window_days whole).first.0 (window_days whole).last.0 part parts p)
        cs (all_sound whole ok)

    rows-total : (k : ℕ) → total ◌+ℤ◌ (λ w. get_or (rows_in w) k (pos 0)) part parts ≡ get_or (rows_in whole) k (pos 0)
    rows-total k =
        by (ltb k (8 * n)) (λ _. total ◌+ℤ◌ (λ w. get_or (rows_in w) k (pos 0)) part parts ≡ get_or (rows_in whole) k (pos 0))
        (λ q.
        let h : k < 8 * n = omega tests in
        ap (λ (f : WindowDates → ℤ). total ◌+ℤ◌ f part parts) (fun_ext (λ w. number_at n k (window_days w) h)) ∙ sum-total (row_at k) (column_at k)
        ∙ sym (number_at n k (window_days whole) h))
        (λ q.
        let h : 8 * n ≤ k = omega tests in
        ap (λ (f : WindowDates → ℤ). total ◌+ℤ◌ f part parts) (fun_ext (λ w. none-past n k (window_days w) h)) ∙ total-none part parts
        ∙ sym (none-past n k (window_days whole) h))

pub rows-demand-3 : RowsDemand3
rows-demand-3 rates rest n whole part parts ok ps =
    let b = (window_days whole).first.0 in
    let e = (window_days whole).last.0 in
    let o = parts-every Accepts window_days b e part parts ps in
    let p = parts-map _ _ window_days (λ w k. sound-days rates w k) b e part parts ps in
    record {
      same_end = (files-demand-3 rates rest whole part parts ok ps).same_end;
      rows = λ k.
          total-same ◌+ℤ◌ (λ w. get_or (rows_for rates rest n w) k (pos 0)) (λ w. get_or (rows_over Plain n (window_days w) rates (cs rates rest)) k (pos 0)) part parts
          (every_map _ _ (λ w a. ap (λ (xs : List ℤ). get_or xs k (pos 0)) (rows_are rates rest w a n)) part parts o)
          ∙ rows-total rates rest whole part parts ok p n k ∙ sym (ap (λ (xs : List ℤ). get_or xs k (pos 0)) (rows_are rates rest whole ok n));
    }
