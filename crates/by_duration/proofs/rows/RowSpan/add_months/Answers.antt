-- `rows::RowSpan::add_months` meets its contract: the first month, the whole ones behind it, and the rest.
-- Assumes nothing.
use Rattle.std.proofs.Common.{refl, arith}
use mathlib.Core.Path.{subst⁻¹}
use Rattle.rates.specs.design.Prepared.{part_recovery, part_death}
use Rattle.by_duration.specs.design.Private.{Fit}
use Rattle.by_duration.proofs.Raised.{raised-fit, raised-none}
use Rattle.by_duration.proofs.SpanRows.{months-none}
use Rattle.by_duration.proofs.rows.RowSpan.add_months.Goals as goal

pub returns-then-self-eq0 : goal.returns-then-self-eq0
returns-then-self-eq0 c =
    raised-none c.args.rows.now _ c.requires.fit (λ r k _ _. months-none _ _ c.args.self.n c.args.self.span _ r k (omega arith))

pub add_from-requires-clause-fit : goal.add_from-requires-clause-fit
add_from-requires-clause-fit c =
    let a = c.args in
    let none = raised-none a.rows.now _ c.requires.fit (λ r k _ _. months-none (part_recovery a.kind a.part.now) (part_death a.kind a.part.now) a.self.n a.self.span 0 r k refl) in
    subst⁻¹ Fit (c.add_whole-to.ensures.rows_after a.rows.now (c.add_one.ensures.rows_after a.rows.now none)) (raised-fit _ _)

pub returns : goal.returns
returns c =
    let a = c.args in
    let none = raised-none a.rows.now _ c.requires.fit (λ r k _ _. months-none (part_recovery a.kind a.part.now) (part_death a.kind a.part.now) a.self.n a.self.span 0 r k refl) in
    c.add_from.ensures a.rows.now (c.add_whole-to.ensures.rows_after a.rows.now (c.add_one.ensures.rows_after a.rows.now none))
