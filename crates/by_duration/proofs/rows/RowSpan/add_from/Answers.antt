-- `rows::RowSpan::add_from` meets its contract. Invariant: the months so far were added.
-- Assumes nothing.
use Rattle.std.proofs.Common.{◌≡◌, sym, ◌∙◌, arith}
use Rattle.by_duration.proofs.rows.RowSpan.add_from.Goals as goal

pub loop-month-init : goal.loop-month-init
loop-month-init c = (c.requires.rows_len, c.requires.fit, λ s e. e)

pub add_one-requires : goal.add_one-requires
add_one-requires c = record { in_span = omega arith; rows_len = c.loop-month.invariant.0; fit = c.loop-month.invariant.1 }

pub loop-month-preserved : goal.loop-month-preserved
loop-month-preserved c =
    let l = c.loop-month in
    (c.add_one.auto.rows ∙ l.invariant.0, c.add_one.ensures.fit_after, λ s q. c.add_one.ensures.rows_after s (l.invariant.2 s q))

pub shape_of-rows : goal.shape_of-rows
shape_of-rows c = c.loop-month.invariant.0 ∙ sym c.requires.rows_len

pub returns : goal.returns
returns c =
    let e : c.loop-month.month ≡ c.args.self.span.months = omega (arith, c.requires.from_le_months) in
    λ s q. rw e at (c.loop-month.invariant.2 s q)
