-- `rows::RowSpan::add_one` meets its contract. The month is one more of the span's.
-- Assumes nothing.
use Rattle.std.proofs.Common.{◌≡◌, ℕ, ◌+◌, ◌≤◌, ℤ, pos, negsuc, ◌*ℤ◌, nat_abs, ap, ap₂, refl, ◌∙◌, arith, to_z-of_z, w32, w64, SFits, to_z, of_z}
use mathlib.Core.Path.{subst⁻¹}
use lib.IntN.{*ℤ_comm}
use Rattle.basics.proofs.Signed.{read_back}
use Rattle.claim_months.proofs.Spans.{thirtieths-size}
use Rattle.rates.specs.design.Prepared.{part_recovery, part_death, rates_over}
use Rattle.study.proofs.Banded.{one-rate}
use Rattle.by_duration.specs.design.Private.{Fit}
use Rattle.by_duration.proofs.Raised.{raised-fit}
use Rattle.by_duration.proofs.SpanRows.{row-range, months-step}
use Rattle.by_duration.proofs.rows.RowSpan.add_one.Goals as goal

-- what a month expects, as the code has its thirtieths from 64 bits
fits : (t : ℤ) → nat_abs t ≤ 30 → SFits w32 t
fits (pos n) h = record { sfits = omega arith }
fits (negsuc n) h = record { sfits = omega arith }

timed : (rate : ℕ → ℤ) (d : ℕ) (t y : ℤ) → 2 ≤ d → nat_abs t ≤ 30 → y ≡ to_z w32 (of_z w32 (to_z w64 (of_z w64 t))) *ℤ rates_over rate d 1 → y ≡ rate d *ℤ t
timed rate d t y low few e =
    e
    ∙ ap₂ ◌*ℤ◌ (ap (λ (z : ℤ). to_z w32 (of_z w32 z)) (read_back t (omega (arith, few))) ∙ to_z-of_z {w = w32} (fits t few)) (one-rate rate d low)
    ∙ *ℤ_comm t (rate d)

pub overflow_add-duration : goal.overflow_add-duration
overflow_add-duration c = record { fits = omega (arith, c.args.self.span_bounds.first_high, c.args.self.span_bounds.months_high, c.requires.in_span) }

pub overflow_cast-thirtieths : goal.overflow_cast-thirtieths
overflow_cast-thirtieths c =
    let few : nat_abs c.thirtieths-thirtieths.result ≤ 30 = rw c.thirtieths-thirtieths.ensures (thirtieths-size c.args.self.span c.args.month c.args.self.span_bounds) in
    rw (read_back c.thirtieths-thirtieths.result (omega (arith, few))) (fits _ few)

pub add_month-requires : goal.add_month-requires
add_month-requires c =
    let low : 2 ≤ c.args.self.span.first.0 = c.args.self.span_bounds.first_low (omega (arith, c.requires.in_span)) in
    let r =
    row-range c.args.self.n c.row_of-row.result _ c.args.self.le_n (omega (arith, low)) c.row_of-row.ensures in
    record { le_row = r.0; row_in_bounds = omega (arith, r.1, c.requires.rows_len); fit = c.requires.fit }

pub shape_of-rows : goal.shape_of-rows
shape_of-rows c = c.add_month.auto.rows

pub returns-clause-fit_after : goal.returns-clause-fit_after
returns-clause-fit_after c = subst⁻¹ Fit c.add_month.ensures (raised-fit c.args.rows.now _)

pub returns-clause-rows_after : goal.returns-clause-rows_after
returns-clause-rows_after c =
    let t = c.thirtieths-thirtieths.result in
    let x = c.month_expected-expected in
    let m = c.args.month in
    let few : nat_abs t ≤ 30 = rw c.thirtieths-thirtieths.ensures (thirtieths-size c.args.self.span m c.args.self.span_bounds) in
    let first : 2 ≤ c.args.self.span.first.0 = c.args.self.span_bounds.first_low (omega (arith, c.requires.in_span)) in
    let low : 2 ≤ c.args.self.span.first.0 + m = omega (arith, first) in
    let tb : to_z w64 (of_z w64 t) ≡ t = to_z-of_z {w = w64} (record { sfits = c.thirtieths-thirtieths.type_inv }) in
    let recovery = part_recovery c.args.kind c.args.part.now in
    let death = part_death c.args.kind c.args.part.now in
    λ s q.
    months-step recovery death c.args.self.n c.args.self.span m c.row_of-row.result (c.args.self.span.first.0 + m) t x.result.recoveries
    x.result.deaths refl c.row_of-row.ensures c.thirtieths-thirtieths.ensures (timed recovery _ t _ low few x.ensures.recoveries_value)
    (timed death _ t _ low few x.ensures.deaths_value) s c.args.rows.now _ q (rw tb at c.add_month.ensures)
