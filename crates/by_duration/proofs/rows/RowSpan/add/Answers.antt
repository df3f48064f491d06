-- `rows::RowSpan::add` meets its contract: the months with the rates of the cell's part, then the closing.
-- Assumes nothing.
use Rattle.std.proofs.Common.{◌+◌, ◌*◌, ◌<◌, List, length, ℤ, ap, ◌∙◌, arith}
use mathlib.Core.Path.{subst⁻¹}
use Rattle.rates.proofs.Parts.{lent-part}
use Rattle.by_duration.specs.design.Private.{Fit, raised_by, span_closings}
use Rattle.by_duration.proofs.Raised.{raised-length, raised-fit, raised-none, raised-same, raised-twice}
use Rattle.by_duration.proofs.SpanRows.{part-figure, no_cell}
use Rattle.by_duration.proofs.rows.RowSpan.add.Goals as goal

pub add_closing-requires : goal.add_closing-requires
add_closing-requires c =
    let e = c.add_months.ensures in
    record { rows_len = ap length e ∙ raised-length _ _ ∙ c.requires.rows_len; fit = subst⁻¹ Fit e (raised-fit _ _) }

pub shape_of-rows : goal.shape_of-rows
shape_of-rows c = c.add_closing.auto.rows ∙ c.add_months.auto.rows

pub returns-in-Some : goal.returns-in-Some
returns-in-Some c =
    let a = c.args in
    let found = c.in-Some.ensures.lookup.0 in
    c.add_closing.ensures ∙ ap (λ (l : List ℤ). raised_by l (span_closings a.self.n a.self.span)) c.add_months.ensures ∙ raised-twice a.rows.now _ _
    ∙ raised-same a.rows.now _ _
    (λ r k _ _. part-figure a.kind a.self.n a.table.now a.cell.0 a.self.span _ (found.2 ∙ lent-part a.table.now a.cell.0) found.1 r k)

pub returns-in_default : goal.returns-in_default
returns-in_default c =
    let a = c.args in
    let few : length a.table.now < a.cell.0 * 958 + 958 = grind (arith, c.in_default.ensures.lookup) in
    raised-none a.rows.now _ c.requires.fit (λ r k _ _. no_cell a.kind a.self.n a.table.now a.cell.0 a.self.span few r k)
