-- `rows::RowSpan::add_closing` meets its contract: the closing month has one more in its row under its category.
-- Assumes nothing.
use Rattle.std.proofs.Common.{◌<◌, ◌≤◌, pos, ◌∙◌, arith}
use Rattle.by_duration.specs.design.Private.{span_closings}
use Rattle.by_duration.proofs.Raised.{raised-none, raised-same, raised-one}
use Rattle.by_duration.proofs.SpanRows.{row-range, closing-none, closing-one}
use Rattle.by_duration.proofs.rows.RowSpan.add_closing.Goals as goal

pub returns-then-category-eq0 : goal.returns-then-category-eq0
returns-then-category-eq0 c =
    raised-none c.args.rows.now (span_closings c.args.self.n c.args.self.span) c.requires.fit
    (λ r k _ _. closing-none c.args.self.n c.args.self.span (omega arith) r k)

pub overflow_sub-span : goal.overflow_sub-span
overflow_sub-span c = c.args.self.span_bounds.closing_months (omega arith)

pub overflow_add-span : goal.overflow_add-span
overflow_add-span c = record { fits = omega (arith, c.args.self.span_bounds.first_high, c.args.self.span_bounds.months_high) }

pub overflow_sub-row : goal.overflow_sub-row
overflow_sub-row c =
    let closes : 0 < c.args.self.span.category = omega arith in
    let ranges : (1 ≤ c.row_of-row.result) × (c.row_of-row.result ≤ c.args.self.n) = row-range c.args.self.n _ _ c.args.self.le_n (omega (arith, c.args.self.span_bounds.first_low (c.args.self.span_bounds.closing_months closes))) c.row_of-row.ensures in
    ranges.0

pub raise-requires : goal.raise-requires
raise-requires c =
    let closes : 0 < c.args.self.span.category = omega arith in
    let ranges : (1 ≤ c.row_of-row.result) × (c.row_of-row.result ≤ c.args.self.n) = row-range c.args.self.n _ _ c.args.self.le_n (omega (arith, c.args.self.span_bounds.first_low (c.args.self.span_bounds.closing_months closes))) c.row_of-row.ensures in
    let r = ranges in
    omega (arith, r, c.args.self.span_bounds.category_high, c.requires.rows_len)

pub shape_of-rows : goal.shape_of-rows
shape_of-rows c = c.raise.auto.rows

pub returns : goal.returns
returns c =
    let closes : 0 < c.args.self.span.category = omega arith in
    let ranges : (1 ≤ c.row_of-row.result) × (c.row_of-row.result ≤ c.args.self.n) = row-range c.args.self.n _ _ c.args.self.le_n (omega (arith, c.args.self.span_bounds.first_low (c.args.self.span_bounds.closing_months closes))) c.row_of-row.ensures in
    let r = ranges in
    c.raise.ensures
    ∙ raised-one c.args.rows.now c.row_of-row.result c.args.self.span.category (pos 1) c.requires.fit r.0 (omega (arith, c.args.self.span_bounds.category_high))
    (omega (arith, r, c.args.self.span_bounds.category_high, c.requires.rows_len))
    ∙ raised-same c.args.rows.now _ (span_closings c.args.self.n c.args.self.span)
    (λ x k _ _. closing-one c.args.self.n c.args.self.span c.row_of-row.result _ closes c.args.self.span_bounds.category_high c.row_of-row.ensures (omega arith) x k)

pub overflow_mul-row : goal.overflow_mul-row
overflow_mul-row c =
    let closes : 0 < c.args.self.span.category = omega arith in
    let ranges : (1 ≤ c.row_of-row.result) × (c.row_of-row.result ≤ c.args.self.n) = row-range c.args.self.n _ _ c.args.self.le_n (omega (arith, c.args.self.span_bounds.first_low (c.args.self.span_bounds.closing_months closes))) c.row_of-row.ensures in
    omega (arith, ranges.1)

pub overflow_add-row : goal.overflow_add-row
overflow_add-row c =
    let closes : 0 < c.args.self.span.category = omega arith in
    let ranges : (1 ≤ c.row_of-row.result) × (c.row_of-row.result ≤ c.args.self.n) = row-range c.args.self.n _ _ c.args.self.le_n (omega (arith, c.args.self.span_bounds.first_low (c.args.self.span_bounds.closing_months closes))) c.row_of-row.ensures in
    omega (arith, ranges.1)
