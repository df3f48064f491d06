-- `rows::add_rows` meets its contract: the claim's span is added, or nothing where it is refused.
-- Assumes nothing.
use Rattle.std.proofs.Common.{◌≡◌, sym, ap, ◌∙◌}
use Rattle.basics.specs.Refused.{number_of, numbered}
use Rattle.claim_months.specs.Span.{span_in}
use Rattle.claim_months.proofs.SpanAnswers.{spanned-bounds}
use Rattle.by_duration.proofs.Raised.{raised-none, raised-same}
use Rattle.by_duration.proofs.SpanRows.{span-checked, refused-checked}
use Rattle.by_duration.proofs.rows.add_rows.Goals as goal
use Rattle.std.specs.Prelude.{Ok}

pub invariant_of-add : goal.invariant_of-add
invariant_of-add c =
    let answered : Ok c.in-Ok.span ≡ span_in c.args.claim c.args.window.window.first.0 c.args.window.window.last.0 = ap numbered (sym c.in-Ok.is) ∙ c.span_in.ensures in
    record { span_bounds = spanned-bounds _ _ _ _ answered; le_n = c.requires.le_n }

pub shape_of-rows : goal.shape_of-rows
shape_of-rows c = c.add.auto.rows

pub returns-in-Ok : goal.returns-in-Ok
returns-in-Ok c =
    let answered : Ok c.in-Ok.span ≡ span_in c.args.claim c.args.window.window.first.0 c.args.window.window.last.0 = ap numbered (sym c.in-Ok.is) ∙ c.span_in.ensures in
    (rw c.from.ensures at c.add.ensures)
    ∙ raised-same c.args.rows.now _ _
    (λ r k _ _. span-checked c.args.kind c.args.n c.args.window.window c.args.table.now c.args.claim c.in-Ok.span answered r k)

pub returns-in_default : goal.returns-in_default
returns-in_default c =
    raised-none c.args.rows.now _ c.requires.fit
    (λ r k _ _.
    refused-checked c.args.kind c.args.n c.args.window.window c.args.table.now c.args.claim (number_of c.in_default.field-0)
    (ap numbered (sym c.in_default.is) ∙ c.span_in.ensures) r k)
