-- `rows::RowSpan::add_whole` meets its contract. Invariant: the months so far were added.
-- Assumes nothing.
use Rattle.std.proofs.Common.{◌≡◌, ◌+◌, ◌-◌, ◌*◌, ◌/◌, ◌≤◌, length, sym, ap, ◌∙◌, arith, to_z-of_z, w64, to_z, of_z, nat_abs}
use mathlib.Core.Path.{subst⁻¹}
use Rattle.basics.proofs.Signed.{read_back}
use Rattle.claim_months.specs.Span.{span_thirtieths}
use Rattle.claim_months.proofs.Spans.{thirtieths-size}
use Rattle.by_duration.specs.design.Private.{Fit}
use Rattle.by_duration.proofs.Raised.{raised-length, raised-fit}
use Rattle.by_duration.proofs.SpanRows.{whole-step}
use Rattle.by_duration.proofs.rows.RowSpan.add_whole.Goals as goal

pub loop-pair-init : goal.loop-pair-init
loop-pair-init c = (c.requires.rows_len, c.requires.fit, λ s e. e)

pub whole_expected-expected-requires-clause-thirtieths_high : goal.whole_expected-expected-requires-clause-thirtieths_high
whole_expected-expected-requires-clause-thirtieths_high c =
    let t = c.thirtieths-thirtieths.result in
    let few : nat_abs t ≤ 30 = rw c.thirtieths-thirtieths.ensures (thirtieths-size c.args.self.span 1 c.args.self.span_bounds) in
    rw (read_back t (omega (arith, few))) few

pub whole_expected-next-requires-clause-thirtieths_high : goal.whole_expected-next-requires-clause-thirtieths_high
whole_expected-next-requires-clause-thirtieths_high c =
    let t = c.thirtieths-thirtieths.result in
    let few : nat_abs t ≤ 30 = rw c.thirtieths-thirtieths.ensures (thirtieths-size c.args.self.span 1 c.args.self.span_bounds) in
    rw (read_back t (omega (arith, few))) few

pub add_month-requires-clause-fit : goal.add_month-requires-clause-fit
add_month-requires-clause-fit c = c.loop-pair.invariant.1

pub add_month-requires-in-loop-pair-clause-fit : goal.add_month-requires-in-loop-pair-clause-fit
add_month-requires-in-loop-pair-clause-fit c = subst⁻¹ Fit c.add_month.ensures (raised-fit c.loop-pair.rows _)

pub loop-pair-preserved : goal.loop-pair-preserved
loop-pair-preserved c =
    let l = c.loop-pair in
    let x = c.whole_expected-expected in
    let y = c.whole_expected-next in
    let t = c.thirtieths-thirtieths.result in
    let is : to_z w64 (of_z w64 t) ≡ span_thirtieths c.args.self.span 1 = to_z-of_z {w = w64} (record { sfits = c.thirtieths-thirtieths.type_inv }) ∙ c.thirtieths-thirtieths.ensures in
    let m = 1 + 2 * l.pair in
    let d = c.args.self.span.first.0 + 1 + 2 * l.pair in
    let q : m + 1 + 1 ≡ 1 + 2 * (l.pair + 1) = omega arith in
    let e = c.add_month.ensures in
    let f = c.add_month-in-loop-pair.ensures in
    let whole = whole-step c.args.kind c.args.part.now c.args.self.n c.args.self.span c.whole_to.result in (
      ap length f ∙ raised-length _ _ ∙ ap length e ∙ raised-length l.rows _ ∙ l.invariant.0,
      subst⁻¹ Fit f (raised-fit _ _),
      λ s g.
          rw q at
          (whole (m + 1) (d + 1) c.whole_to.ensures (omega arith) (omega arith) (omega arith) _ y.result.recoveries y.result.deaths is y.ensures.recoveries_value
          y.ensures.deaths_value s _ _
          (whole m d c.whole_to.ensures (omega arith) (omega arith) (omega arith) _ x.result.recoveries x.result.deaths is x.ensures.recoveries_value
          x.ensures.deaths_value s l.rows _ (l.invariant.2 s g) e)
          f),
    )

pub shape_of-rows : goal.shape_of-rows
shape_of-rows c = c.loop-pair.invariant.0 ∙ sym c.requires.rows_len

pub returns-clause-rows_after : goal.returns-clause-rows_after
returns-clause-rows_after c =
    let e : 1 + 2 * c.loop-pair.pair ≡ 1 + 2 * ((c.whole_to.result - 1) / 2) = omega arith in
    λ s q. rw e at (c.loop-pair.invariant.2 s q)
