-- `study::share::Share::add` meets its contract. Invariant: what the months before the next band have stands ready, they were added to the sums, and they
-- are in earlier groups. Measure: the months past the end of the band.
-- Assumes nothing.
use Prim.Native.Nat.{ℕ, ◌+◌, ◌-◌, ◌≤◌}
use mathlib.Core.Path.{◌≡◌, refl, ap, ap₂, ◌∙◌}
use mathlib.Core.List.{List}
use native.Mathlib.Omega.{arith}
use lib.IntN.{ℤ, pos, ◌-ℤ◌}
use Rattle.basics.proofs.Integers.{size-sum}
use Rattle.claim_months.specs.declared.Span.{Span}
use Rattle.claim_months.specs.Span.{span_b, SpanBounds}
use Rattle.rates.specs.design.Prepared.{part_recovery, part_death}
use Rattle.rates.proofs.Laws.{group-low, group-high}
use Rattle.study.specs.design.LentAdding.{guarded_plus}
use Rattle.study.specs.design.Private.{months_figure, closing_figure, share_by, three_raised}
use Rattle.study.proofs.Banded.{before_at, banded, before-is, up_to_is, whole_before, whole-up_to, size-difference, size-left}
use Rattle.study.proofs.NextBand.{full, last-short, all-months, some, turn-end, turn-next, last-end, last-group}
use Rattle.study.proofs.Raised.{B-first, B-later, none-raised, no-months, no-share, band-raised, before-none, before-step, span-added}
use Rattle.study.proofs.share.Share.add.Goals as goal

pub returns-then-span-eq0 : goal.returns-then-span-eq0
returns-then-span-eq0 c =
    let a = c.args in
    none-raised a.self.weight a.sums.now _ c.told-sums (no-share _ _ a.self.span a.self.span_bounds (omega arith))

pub loop-end-init : goal.loop-end-init
loop-end-init c =
    let a = c.args in
    let span : Span = a.self.span in
    let first : ℕ = span.first.0 in
    let from : ℕ = c.sums_from-from.result.0 in
    let none : first - first ≡ 0 = omega arith in
    let w = c.whole_months.ensures in
    let p = c.part_month-missing.ensures in
    let b = c.plus-before.ensures in (
      record {
        d = first;
        low = omega arith;
        inside = omega arith;
        group = c.group-band.ensures;
        ends = c.last_of-end.ensures;
        fresh = before-none span _ none;
        thirtieths =
            before-is (λ d. pos 1) from first span.before.0 _ _ _ b.thirtieths_value w.thirtieths_value p.thirtieths_value
            ∙ ap (before_at (λ d. pos 1) from first) (B-first span);
        recoveries =
            before-is (part_recovery a.kind a.part.now) from first span.before.0 _ _ _ b.recoveries_value w.recoveries_value p.recoveries_value
            ∙ ap (before_at (part_recovery a.kind a.part.now) from first) (B-first span);
        deaths =
            before-is (part_death a.kind a.part.now) from first span.before.0 _ _ _ b.deaths_value w.deaths_value p.deaths_value
            ∙ ap (before_at (part_death a.kind a.part.now) from first) (B-first span);
        few = rw b.thirtieths_value (omega (arith, size-sum c.whole_months.result.thirtieths c.part_month-missing.result.thirtieths));
        few-recoveries = rw b.recoveries_value (omega (arith, size-sum c.whole_months.result.recoveries c.part_month-missing.result.recoveries));
        few-deaths = rw b.deaths_value (omega (arith, size-sum c.whole_months.result.deaths c.part_month-missing.result.deaths));
        added = none-raised a.self.weight a.sums.now _ c.told-sums (no-months _ _ span _ none);
      },
      omega arith,
      omega arith,
      omega arith,
    )

-- the band that ends with its group
pub overflow_sub-end : goal.overflow_sub-end
overflow_sub-end c =
    let n = c.loop-end.invariant.0 in
    let s = some c.args.self.span c.args.self.span_bounds n.d _ _ _ n.low n.inside n.group n.ends c.loop-end.invariant.1 in
    omega (arith, s, n.low, c.loop-end.invariant.3)

pub less-requires-clause-thirtieths_bound : goal.less-requires-clause-thirtieths_bound
less-requires-clause-thirtieths_bound c = omega (arith, c.loop-end.invariant.0.few)

pub less-requires-clause-recoveries_bound : goal.less-requires-clause-recoveries_bound
less-requires-clause-recoveries_bound c = omega (arith, c.loop-end.invariant.0.few-recoveries)

pub less-requires-clause-deaths_bound : goal.less-requires-clause-deaths_bound
less-requires-clause-deaths_bound c = omega (arith, c.loop-end.invariant.0.few-deaths)

pub raise_amounts-requires-clause-le_group : goal.raise_amounts-requires-clause-le_group
raise_amounts-requires-clause-le_group c = let n = c.loop-end.invariant.0 in rw n.group (group-low n.d)

pub raise_amounts-requires-clause-group_bound : goal.raise_amounts-requires-clause-group_bound
raise_amounts-requires-clause-group_bound c = let n = c.loop-end.invariant.0 in rw n.group (group-high n.d)

pub raise_amounts-requires-clause-thirtieths_bound : goal.raise_amounts-requires-clause-thirtieths_bound
raise_amounts-requires-clause-thirtieths_bound c =
    rw c.less.ensures.thirtieths_value (omega (arith, c.loop-end.invariant.0.few, size-difference c.whole_months-up_to.result.thirtieths c.loop-end.before.thirtieths))

pub raise_amounts-requires-clause-recoveries_bound : goal.raise_amounts-requires-clause-recoveries_bound
raise_amounts-requires-clause-recoveries_bound c =
    rw c.less.ensures.recoveries_value (omega (arith, c.loop-end.invariant.0.few-recoveries, size-difference c.whole_months-up_to.result.recoveries c.loop-end.before.recoveries))

pub raise_amounts-requires-clause-deaths_bound : goal.raise_amounts-requires-clause-deaths_bound
raise_amounts-requires-clause-deaths_bound c =
    rw c.less.ensures.deaths_value (omega (arith, c.loop-end.invariant.0.few-deaths, size-difference c.whole_months-up_to.result.deaths c.loop-end.before.deaths))

pub overflow_add-band : goal.overflow_add-band
overflow_add-band c =
    let n = c.loop-end.invariant.0 in
    let t = turn-next c.args.self.span c.args.self.span_bounds n.d _ _ _ n.low n.inside n.group n.ends c.loop-end.invariant.1 (omega arith) in
    omega (arith, t.1)

pub loop-end-smaller : goal.loop-end-smaller
loop-end-smaller c =
    let n = c.loop-end.invariant.0 in
    let t = turn-next c.args.self.span c.args.self.span_bounds n.d _ _ _ n.low n.inside n.group n.ends c.loop-end.invariant.1 (omega arith) in
    omega (arith, t.2, c.last_of-end-in-loop-end.ensures)

pub loop-end-preserved : goal.loop-end-preserved
unfolding three_raised
loop-end-preserved c =
    let a = c.args in
    let span : Span = a.self.span in
    let bounds : SpanBounds span = a.self.span_bounds in
    let first : ℕ = span.first.0 in
    let from : ℕ = c.sums_from-from.result.0 in
    let i = c.loop-end.invariant in
    let n = i.0 in
    let d : ℕ = n.d in
    let e : ℕ = c.loop-end.end.0 in
    let missing : ℕ = span_b span (d - first) in
    let he = turn-end span bounds d _ _ _ n.low n.inside n.group n.ends i.1 (omega arith) in
    let next = turn-next span bounds d _ _ _ n.low n.inside n.group n.ends i.1 (omega arith) in
    let long : d ≤ e = some span bounds d _ _ _ n.low n.inside n.group n.ends i.1 in
    let later : 0 ≡ span_b span (e + 1 - first) = B-later span 0 (e + 1 - first) refl (omega (arith, n.low, long)) in
    let w = c.whole_months-up_to.ensures in
    let l = c.less.ensures in (
      record {
        d = e + 1;
        low = omega (arith, n.low, long);
        inside = omega (arith, i.1);
        group = next.0;
        ends = c.last_of-end-in-loop-end.ensures;
        fresh = before-step span bounds d e n.low n.inside he n.fresh;
        thirtieths = w.thirtieths_value ∙ whole_before (λ d. pos 1) from (e + 1) ∙ ap (before_at (λ d. pos 1) from (e + 1)) later;
        recoveries =
            w.recoveries_value ∙ whole_before (part_recovery a.kind a.part.now) from (e + 1) ∙ ap (before_at (part_recovery a.kind a.part.now) from (e + 1)) later;
        deaths = w.deaths_value ∙ whole_before (part_death a.kind a.part.now) from (e + 1) ∙ ap (before_at (part_death a.kind a.part.now) from (e + 1)) later;
        few = omega (arith, w.thirtieths_bound);
        few-recoveries = omega (arith, w.recoveries_bound);
        few-deaths = omega (arith, w.deaths_bound);
        added =
            band-raised span bounds d e n.low n.inside he (part_recovery a.kind a.part.now) (part_death a.kind a.part.now) missing 0 refl
            (full span (e - first) (omega (arith, n.low, long, i.1))) n.fresh c.loop-end.band n.group a.self.weight c.less.result.thirtieths
            c.less.result.recoveries c.less.result.deaths
            (l.thirtieths_value ∙ ap₂ ◌-ℤ◌ (w.thirtieths_value ∙ whole-up_to (λ d. pos 1) from e) n.thirtieths
            ∙ banded (λ d. pos 1) from d e missing 0 i.2 (omega (arith, n.low, i.3)) long)
            (l.recoveries_value ∙ ap₂ ◌-ℤ◌ (w.recoveries_value ∙ whole-up_to (part_recovery a.kind a.part.now) from e) n.recoveries
            ∙ banded (part_recovery a.kind a.part.now) from d e missing 0 i.2 (omega (arith, n.low, i.3)) long)
            (l.deaths_value ∙ ap₂ ◌-ℤ◌ (w.deaths_value ∙ whole-up_to (part_death a.kind a.part.now) from e) n.deaths
            ∙ banded (part_death a.kind a.part.now) from d e missing 0 i.2 (omega (arith, n.low, i.3)) long)
            _ _ _ _ _ n.added refl refl c.raise_amounts.ensures;
      },
      i.1,
      i.2,
      i.3,
    )

-- the last band
pub less-requires-2-clause-thirtieths_bound : goal.less-requires-2-clause-thirtieths_bound
less-requires-2-clause-thirtieths_bound c = rw c.less-all.ensures.thirtieths_value (omega (arith, c.loop-end.invariant.0.few, size-difference c.whole_months-2.result.thirtieths c.part_month-short.result.thirtieths))

pub less-requires-2-clause-recoveries_bound : goal.less-requires-2-clause-recoveries_bound
less-requires-2-clause-recoveries_bound c = rw c.less-all.ensures.recoveries_value (omega (arith, c.loop-end.invariant.0.few-recoveries, size-difference c.whole_months-2.result.recoveries c.part_month-short.result.recoveries))

pub less-requires-2-clause-deaths_bound : goal.less-requires-2-clause-deaths_bound
less-requires-2-clause-deaths_bound c = rw c.less-all.ensures.deaths_value (omega (arith, c.loop-end.invariant.0.few-deaths, size-difference c.whole_months-2.result.deaths c.part_month-short.result.deaths))

pub raise_amounts-requires-2-clause-le_group : goal.raise_amounts-requires-2-clause-le_group
raise_amounts-requires-2-clause-le_group c = let n = c.loop-end.invariant.0 in rw n.group (group-low n.d)

pub raise_amounts-requires-2-clause-group_bound : goal.raise_amounts-requires-2-clause-group_bound
raise_amounts-requires-2-clause-group_bound c = let n = c.loop-end.invariant.0 in rw n.group (group-high n.d)

pub add_closing-requires-clause-group_value : goal.add_closing-requires-clause-group_value
add_closing-requires-clause-group_value c =
    let n = c.loop-end.invariant.0 in
    last-group c.args.self.span c.args.self.span_bounds n.d _ _ _ n.low n.inside n.group n.ends c.loop-end.invariant.1 (omega arith)

pub raise_amounts-requires-2-clause-thirtieths_bound : goal.raise_amounts-requires-2-clause-thirtieths_bound
raise_amounts-requires-2-clause-thirtieths_bound c =
    let left = size-left c.whole_months-2.result.thirtieths c.part_month-short.result.thirtieths c.loop-end.before.thirtieths _ _ c.less-all.ensures.thirtieths_value c.less-2.ensures.thirtieths_value in
    omega (arith, c.loop-end.invariant.0.few, left)

pub raise_amounts-requires-2-clause-recoveries_bound : goal.raise_amounts-requires-2-clause-recoveries_bound
raise_amounts-requires-2-clause-recoveries_bound c =
    let left = size-left c.whole_months-2.result.recoveries c.part_month-short.result.recoveries c.loop-end.before.recoveries _ _ c.less-all.ensures.recoveries_value c.less-2.ensures.recoveries_value in
    omega (arith, c.loop-end.invariant.0.few-recoveries, left)

pub raise_amounts-requires-2-clause-deaths_bound : goal.raise_amounts-requires-2-clause-deaths_bound
raise_amounts-requires-2-clause-deaths_bound c =
    let left = size-left c.whole_months-2.result.deaths c.part_month-short.result.deaths c.loop-end.before.deaths _ _ c.less-all.ensures.deaths_value c.less-2.ensures.deaths_value in
    omega (arith, c.loop-end.invariant.0.few-deaths, left)

pub returns : goal.returns
unfolding three_raised
returns c =
    let a = c.args in
    let span : Span = a.self.span in
    let bounds : SpanBounds span = a.self.span_bounds in
    let first : ℕ = span.first.0 in
    let from : ℕ = c.sums_from-from.result.0 in
    let i = c.loop-end.invariant in
    let n = i.0 in
    let d : ℕ = n.d in
    let last : ℕ = first + (span.months - 1) in
    let missing : ℕ = span_b span (d - first) in
    let short : ℕ = 30 - span.through.0 in
    let he = last-end span bounds d _ _ _ n.low n.inside n.group n.ends i.1 (omega arith) in
    let long : d ≤ last = omega (arith, n.inside, i.1) in
    let w = c.whole_months-2.ensures in
    let p = c.part_month-short.ensures in
    let m = c.less-all.ensures in
    let l = c.less-2.ensures in
    let months =
    band-raised span bounds d last n.low n.inside he (part_recovery a.kind a.part.now) (part_death a.kind a.part.now) missing short refl
    (last-short span (last - first) (omega arith)) n.fresh c.loop-end.band n.group a.self.weight c.less-2.result.thirtieths c.less-2.result.recoveries c.less-2.result.deaths
    (l.thirtieths_value ∙ ap₂ ◌-ℤ◌ (up_to_is (λ d. pos 1) from last short _ _ _ m.thirtieths_value w.thirtieths_value p.thirtieths_value) n.thirtieths
    ∙ banded (λ d. pos 1) from d last missing short i.2 (omega (arith, n.low, i.3)) long)
    (l.recoveries_value ∙ ap₂ ◌-ℤ◌ (up_to_is (part_recovery a.kind a.part.now) from last short _ _ _ m.recoveries_value w.recoveries_value p.recoveries_value) n.recoveries
    ∙ banded (part_recovery a.kind a.part.now) from d last missing short i.2 (omega (arith, n.low, i.3)) long)
    (l.deaths_value ∙ ap₂ ◌-ℤ◌ (up_to_is (part_death a.kind a.part.now) from last short _ _ _ m.deaths_value w.deaths_value p.deaths_value) n.deaths
    ∙ banded (part_death a.kind a.part.now) from d last missing short i.2 (omega (arith, n.low, i.3)) long)
    _ _ _ _ _ n.added refl refl c.raise_amounts-2.ensures in
    c.add_closing.ensures
    ∙ ap (λ (s : List ℤ). guarded_plus s (share_by a.self.weight (closing_figure span)))
    (months
    ∙ ap (λ (k : ℕ). guarded_plus a.sums.now (share_by a.self.weight (months_figure (part_recovery a.kind a.part.now) (part_death a.kind a.part.now) span k)))
    (all-months first span.months last (omega arith) refl))
    ∙ span-added (part_recovery a.kind a.part.now) (part_death a.kind a.part.now) a.sums.now a.self.weight span
