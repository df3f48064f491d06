-- A span's months and its closing, one after the other, as amounts of rows; together they are the figures of its month records.
-- Assumes nothing.
use Rattle.std.proofs.Common.{get_or, min, ◌-ℤ◌, ◌≡◌, ℕ, suc, ◌+◌, ◌-◌, ◌*◌, ◌<◌, ◌≤◌, Bool, true, false, ◌&&◌, eqb, leb, List, length, ℤ, pos, ◌+ℤ◌, ◌*ℤ◌, sym, refl, ap, ◌∙◌, ap₂, mul-zero, add-one, eq-eqb, ne_eqb, le-leb}
use mathlib.Core.Path.{subst⁻¹}
use mathlib.Core.Bool.{and-false}
use lib.IntN.{+ℤ_idl, +ℤ_idr, suc_ℤ-*ℤ, zero-*ℤ}
use borrow.Author.Tests.{lt-leb}
use Rattle.basics.specs.Pick.{pick}
use Rattle.basics.specs.Series.{sum_to}
use Rattle.basics.proofs.Tests.{tests, by, pick_is, and_left, and_right}
use Rattle.calendar.specs.Calendar.{last_day_number}
use Rattle.claim_months.specs.declared.Claim.{Claim}
use Rattle.claim_months.specs.declared.Span.{Span}
use Rattle.claim_months.specs.Exposure.{month_records}
use Rattle.claim_months.specs.declared.Window.{Window}
use Rattle.claim_months.specs.Span.{span_of, span_u, span_b, span_thirtieths, span_weighted, span_closing, exposure_check, span_in}
use Rattle.claim_months.proofs.SpanAnswers.{exposed, spanned, span-refused}
use Rattle.rates.specs.declared.Kind.{Kind}
use Rattle.rates.specs.Rates.{place}
use Rattle.rates.specs.declared.Kind.TheVariants.{Prepared}
use Rattle.rates.specs.design.Prepared.{sum_before, prepared_rate, recovery_of, death_of, part_recovery, part_death}
use Rattle.rates.proofs.Parts.{cell_part, part-recovery, part-death}
use Rattle.claim_months.proofs.Sound.{Sound}
use Rattle.claim_months.proofs.Spans.{span-weighted, span-closings}
use Rattle.study.specs.Sums.{is_count}
use Rattle.study.specs.design.Private.{column_rate}
use Rattle.by_duration.specs.Rows.{row_of, in_row, row_weight, row_figure, claim_figure}
use Rattle.by_duration.specs.design.Private.{WholeTo, raised_by, month_amount, span_months, span_closings, has_cell, span_figure, checked_figure}
use Rattle.by_duration.proofs.Figures.{figure_in, row-figure}
use Rattle.by_duration.proofs.Raised.{raised-same, raised-twice, one_amount}
use Rattle.std.specs.Prelude.{Err, Ok}

pub once : (x : ℤ) → pos 1 *ℤ x ≡ x
once x = suc_ℤ-*ℤ (pos 0) x ∙ ap (λ (z : ℤ). z +ℤ x) (zero-*ℤ x) ∙ +ℤ_idl x

-- a duration's row is one of the n
pub row-range : (n row d : ℕ) → 1 ≤ n → 1 ≤ d → row ≡ row_of n d → (1 ≤ row) × (row ≤ n)
unfolding row_of
row-range n row d low h e = (omega tests, omega tests)

module _ (recovery death : ℕ → ℤ) where
  -- a month's amounts in the columns without counts, and in those with
  column-amount : (c d : ℕ) (t : ℤ) → c < 8 → is_count c ≡ false
      → pick (eqb c 0) t (pick (eqb c 6) (recovery d *ℤ t) (pick (eqb c 7) (death d *ℤ t) (pos 0))) ≡ column_rate recovery death c d *ℤ t
  unfolding column_rate is_count
  column-amount c d t h n =
      by (eqb c 0)
      (λ u. pick u t (pick (eqb c 6) (recovery d *ℤ t) (pick (eqb c 7) (death d *ℤ t) (pos 0))) ≡ pick u (λ d. pos 1) (pick (eqb c 6) recovery death) d *ℤ t)
      (λ q. sym (once t))
      (λ q.
      by (eqb c 6) (λ u. pick u (recovery d *ℤ t) (pick (eqb c 7) (death d *ℤ t) (pos 0)) ≡ pick u recovery death d *ℤ t) (λ p. refl)
      (λ p. rw (eq-eqb c 7 (past-counts c n (omega tests) (omega tests) h)) refl))
    where
      past-counts : (c : ℕ) → (leb 1 c && leb c 5) ≡ false → 0 < c → (c ≡ 6 → ⊥) → c < 8 → c ≡ 7
      past-counts c n a b h =
          by (leb 1 c) (λ u. (u && leb c 5) ≡ false → c ≡ 7) (λ q m. omega (tests, b)) (λ q m. absurd (omega tests)) n

  no-amount : (c : ℕ) (x y z : ℤ) → is_count c ≡ true → pick (eqb c 0) x (pick (eqb c 6) y (pick (eqb c 7) z (pos 0))) ≡ pos 0
  unfolding is_count
  no-amount c x y z h =
      let low = and_left (leb 1 c) (leb c 5) h in
      let high = and_right (leb 1 c) (leb c 5) h in
      rw (
        ne_eqb c 0 (λ (e : c ≡ 0). omega tests),
        ne_eqb c 6 (λ (e : c ≡ 6). omega tests),
        ne_eqb c 7 (λ (e : c ≡ 7). omega tests),
      ) refl

  no-pick : (t : Bool) (x : ℤ) → x ≡ pos 0 → pick t x (pos 0) ≡ pos 0
  no-pick t x e = pick_is t (λ _. e) (λ _. refl)

  -- no months, and one month more
  pub months-none : (n : ℕ) (sp : Span) (m r c : ℕ) → m ≡ 0 → span_months recovery death n sp m r c ≡ pos 0
  unfolding span_months span_weighted sum_to
  months-none n sp m r c e = rw e (pick_is (is_count c) (λ _. refl) (λ _. refl))

  picked-times : (u : Bool) (x t : ℤ) → pick u (x *ℤ t) (pos 0) ≡ pick u x (pos 0) *ℤ t
  picked-times true x t = refl
  picked-times false x t = sym (zero-*ℤ t)

  pub months-more : (n : ℕ) (sp : Span) (m row d : ℕ) (t x y : ℤ) → d ≡ sp.first.0 + m → row ≡ row_of n d → t ≡ span_thirtieths sp m
      → x ≡ recovery d *ℤ t → y ≡ death d *ℤ t → (r c : ℕ) → c < 8
      → span_months recovery death n sp m r c +ℤ month_amount row t x y r c ≡ span_months recovery death n sp (m + 1) r c
  unfolding span_months month_amount span_weighted sum_to row_weight
  months-more n sp m row d t x y ed er et ex ey r c h =
      rw (add-one m, ex, ey)
      (by (is_count c)
      (λ u. pick u (pos 0) (span_weighted (row_weight n r (column_rate recovery death c)) sp m)
      +ℤ pick (eqb row r) (pick (eqb c 0) t (pick (eqb c 6) (recovery d *ℤ t) (pick (eqb c 7) (death d *ℤ t) (pos 0)))) (pos 0)
      ≡ pick u (pos 0) (span_weighted (row_weight n r (column_rate recovery death c)) sp (suc m)))
      (λ q.
      +ℤ_idl (pick (eqb row r) (pick (eqb c 0) t (pick (eqb c 6) (recovery d *ℤ t) (pick (eqb c 7) (death d *ℤ t) (pos 0)))) (pos 0))
      ∙ no-pick (eqb row r) _ (no-amount c t (recovery d *ℤ t) (death d *ℤ t) q))
      (λ q.
      ap (λ (z : ℤ). span_weighted (row_weight n r (column_rate recovery death c)) sp m +ℤ z)
      (ap (λ (z : ℤ). pick (eqb row r) z (pos 0)) (column-amount c d t h q) ∙ picked-times (eqb row r) (column_rate recovery death c d) t
      ∙ (λ i. pick (eqb (er i) r) (column_rate recovery death c d) (pos 0) *ℤ t)
      ∙ (λ i. row_weight n r (column_rate recovery death c) (ed i) *ℤ et i))))

  -- the same of rows that the months before it were added to
  pub months-step : (n : ℕ) (sp : Span) (m row d : ℕ) (t x y : ℤ) → d ≡ sp.first.0 + m → row ≡ row_of n d → t ≡ span_thirtieths sp m
      → x ≡ recovery d *ℤ t → y ≡ death d *ℤ t → (s rows after : List ℤ) → rows ≡ raised_by s (span_months recovery death n sp m)
      → after ≡ raised_by rows (month_amount row t x y) → after ≡ raised_by s (span_months recovery death n sp (m + 1))
  months-step n sp m row d t x y ed er et ex ey s rows after e f =
      f ∙ ap (λ (z : List ℤ). raised_by z (month_amount row t x y)) e ∙ raised-twice s _ _
      ∙ raised-same s _ (span_months recovery death n sp (m + 1)) (λ r i _ h. months-more n sp m row d t x y ed er et ex ey r i h)

-- of a prepared part, the rate at a duration from 3 to 480 is the difference of two numbers
rate-between : (part : List ℕ) (from d i j : ℕ) → 3 ≤ d → d ≤ 480 → i ≡ from + (d - 2) → j + 1 ≡ i
    → pos (get_or part i 0) -ℤ pos (get_or part j 0) ≡ prepared_rate part from d
unfolding prepared_rate sum_before place
rate-between part from d i j low high e f =
    let p : min d 480 - 2 ≡ suc (d - 3) = omega tests in
    let a : i ≡ from + suc (d - 3) = omega tests in
    let b : j ≡ from + (d - 3) = omega tests in
    rw p (ap₂ (λ (a b : ℕ). pos (get_or part a 0) -ℤ pos (get_or part b 0)) a b)

module _ (part : List ℕ) (d i : ℕ) (l : length part ≡ 958) (low : 3 ≤ d) (high : d ≤ 480) where
  pub recovery-between : i ≡ d - 2 → pos (get_or part i 0) -ℤ pos (get_or part (i - 1) 0) ≡ part_recovery Prepared part d
  unfolding part_recovery recovery_of
  recovery-between e = rw (eq-eqb (length part) 958 l) (rate-between part 0 d i (i - 1) low high (omega tests) (omega tests))

  pub death-between : i ≡ 477 + d → pos (get_or part i 0) -ℤ pos (get_or part (i - 1) 0) ≡ part_death Prepared part d
  unfolding part_death death_of
  death-between e = rw (eq-eqb (length part) 958 l) (rate-between part 479 d i (i - 1) low high (omega tests) (omega tests))

-- a month that is neither the first nor the last has 30 thirtieths
whole-thirtieths : (sp : Span) (m : ℕ) → 0 < m → m + 1 < sp.months → pos 30 ≡ span_thirtieths sp m
unfolding span_thirtieths span_u span_b
whole-thirtieths sp m low high =
    rw (ne_eqb (m + 1) sp.months (λ (e : m + 1 ≡ sp.months). omega tests), ne_eqb m 0 (λ (e : m ≡ 0). omega tests)) refl

own-row : (n d : ℕ) → d ≤ n → d ≡ row_of n d
unfolding row_of
own-row n d h = omega tests

-- a whole month more, as one that has the thirtieths of the second
pub whole-step : (kind : Kind) (part : List ℕ) (n : ℕ) (sp : Span) (to m d : ℕ) → WholeTo kind part n sp to → 1 ≤ m → m < to → d ≡ sp.first.0 + m
    → (t x y : ℤ) → t ≡ span_thirtieths sp 1 → x ≡ part_recovery Prepared part d *ℤ t → y ≡ part_death Prepared part d *ℤ t → (s rows after : List ℤ)
    → rows ≡ raised_by s (span_months (part_recovery kind part) (part_death kind part) n sp m) → after ≡ raised_by rows (month_amount d t x y)
    → after ≡ raised_by s (span_months (part_recovery kind part) (part_death kind part) n sp (m + 1))
whole-step kind part n sp to m d w low high at t x y et ex ey s rows after e f =
    let more : 1 < to = omega tests in
    let last = w.before_last more in
    let within = w.with_rows more in
    let k : kind ≡ Prepared = w.prepared more in
    let same : t ≡ span_thirtieths sp m = et ∙ sym (whole-thirtieths sp 1 (omega tests) (omega tests)) ∙ whole-thirtieths sp m (omega tests) (omega tests) in
    months-step (part_recovery kind part) (part_death kind part) n sp m d d t x y at (own-row n d (omega tests)) same
    (subst⁻¹ (λ (z : Kind). x ≡ part_recovery z part d *ℤ t) k ex) (subst⁻¹ (λ (z : Kind). y ≡ part_death z part d *ℤ t) k ey) s rows after e f

-- a closing month counts one in its row under its category
pub closing-none : (n : ℕ) (sp : Span) → sp.category ≡ 0 → (r c : ℕ) → span_closings n sp r c ≡ pos 0
unfolding span_closings span_closing
closing-none n sp z r c = pick_is (is_count c) (λ q. rw (eq-eqb sp.category 0 z) refl) (λ q. refl)

a-count : (c : ℕ) → 1 ≤ c → c ≤ 5 → is_count c ≡ true
unfolding is_count
a-count c low high = rw (le-leb 1 c low, le-leb c 5 high)

one_placed : (row y r c : ℕ) → 1 ≤ y → y ≤ 5
    → pick (eqb r row && eqb c y) (pos 1) (pos 0) ≡ pick (is_count c) (pos (pick (eqb row r) 1 0 * pick (eqb y c) 1 0)) (pos 0)
one_placed row y r c low high =
    by (eqb c y) (λ t. pick (eqb r row && t) (pos 1) (pos 0) ≡ pick (is_count c) (pos (pick (eqb row r) 1 0 * pick (eqb y c) 1 0)) (pos 0))
    (λ u.
    rw (a-count c (omega tests) (omega tests), eq-eqb y c (omega tests))
    (by (eqb r row) (λ t. pick (t && true) (pos 1) (pos 0) ≡ pos (pick (eqb row r) 1 0 * 1))
    (λ v. rw (eq-eqb row r (omega tests)) refl) (λ v. rw (ne_eqb row r (λ (e : row ≡ r). omega tests)) refl)))
    (λ u.
    rw (and-false (eqb r row))
    (sym (pick_is (is_count c) (λ _. rw (ne_eqb y c (λ (e : y ≡ c). omega tests)) (ap pos (mul-zero (pick (eqb row r) 1 0)))) (λ _. refl))))

pub closing-one : (n : ℕ) (sp : Span) (row d : ℕ) → 1 ≤ sp.category → sp.category ≤ 5 → row ≡ row_of n d → d ≡ sp.first.0 + (sp.months - 1) → (r c : ℕ)
    → one_amount row sp.category (pos 1) r c ≡ span_closings n sp r c
unfolding span_closings span_closing in_row
closing-one n sp row d low high q e r c =
    rw (ne_eqb sp.category 0 (λ (z : sp.category ≡ 0). omega tests), ← e, ← q) (one_placed row sp.category r c low high)

-- both are the figures of the records whose span it is
both-picked : (t : Bool) (x y : ℤ) → pick t (pos 0) x +ℤ pick t y (pos 0) ≡ pick t y x
both-picked true x y = +ℤ_idl y
both-picked false x y = +ℤ_idr x

pub span-figure : (recovery death : ℕ → ℤ) (n : ℕ) (c : Claim) → Sound c → (b e : ℕ) → e ≤ last_day_number → (sp : Span) → sp ≡ span_of (month_records c b e) → (r column : ℕ)
    → span_months recovery death n sp sp.months r column +ℤ span_closings n sp r column ≡ row_figure recovery death n r column (month_records c b e)
unfolding span_months span_closings figure_in row_weight in_row
span-figure recovery death n c ok b e h sp q r column =
    let w : ℕ → ℤ = row_weight n r (column_rate recovery death column) in
    let v : ℕ → ℕ → ℕ = λ d y. in_row n r d * pick (eqb y column) 1 0 in
    both-picked (is_count column) (span_weighted w sp sp.months) (pos (span_closing v sp))
    ∙ (λ i. pick (is_count column) (pos (span_closing v (q i))) (span_weighted w (q i) (q i).months))
    ∙ sym (ap₂ (λ (x : ℕ) (y : ℤ). pick (is_count column) (pos x) y) (span-closings c ok b e h v) (span-weighted c ok b e h w))
    ∙ sym (row-figure recovery death n r column (month_records c b e))

-- a span has the rates of its cell's part where the table has it, and is left out where it hasn't
module _ (kind : Kind) (n : ℕ) (table : List ℕ) (cell : ℕ) (sp : Span) where
  pub part-figure : (part : List ℕ) → part ≡ cell_part table cell → cell * 958 + 958 ≤ length table → (r column : ℕ)
      → span_months (part_recovery kind part) (part_death kind part) n sp sp.months r column +ℤ span_closings n sp r column
      ≡ span_figure kind n table cell sp r column
  unfolding span_figure has_cell
  part-figure part e all r column =
      let p : part_recovery kind part ≡ recovery_of kind table cell = ap (part_recovery kind) e ∙ part-recovery table cell all kind in
      let q : part_death kind part ≡ death_of kind table cell = ap (part_death kind) e ∙ part-death table cell all kind in
      rw (le-leb (cell * 958 + 958) (length table) all) (λ i. span_months (p i) (q i) n sp sp.months r column +ℤ span_closings n sp r column)

  pub no_cell : length table < cell * 958 + 958 → (r column : ℕ) → span_figure kind n table cell sp r column ≡ pos 0
  unfolding span_figure has_cell
  no_cell few r column = rw (lt-leb (cell * 958 + 958) (length table) few) refl

-- a claim whose span was answered has its figures, one that was refused none
module _ (kind : Kind) (n : ℕ) (w : Window) (table : List ℕ) (c : Claim) where
  pub span-checked : (sp : Span) → Ok sp ≡ span_in c w.first.0 w.last.0 → (r column : ℕ)
      → span_figure kind n table c.cell sp r column ≡ checked_figure kind n w table c r column
  unfolding span_figure checked_figure claim_figure
  span-checked sp m r column =
      let x = spanned c w.first.0 w.last.0 sp m in
      let y = exposed c w.first.0 w.last.0 x.0 in
      rw (eq-eqb (exposure_check c w.first.0 w.last.0) 0 x.0)
      (ap (λ (z : ℤ). pick (has_cell table c.cell) z (pos 0)) (span-figure _ _ n c y.0 w.first.0 w.last.0 y.1 sp x.1 r column))

  pub refused-checked : (number : ℕ) → Err number ≡ span_in c w.first.0 w.last.0 → (r column : ℕ) → checked_figure kind n w table c r column ≡ pos 0
  unfolding checked_figure
  refused-checked number m r column =
      rw (ne_eqb (exposure_check c w.first.0 w.last.0) 0 (span-refused c w.first.0 w.last.0 number m).0) refl
