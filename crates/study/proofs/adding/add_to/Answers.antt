-- `study::adding::add_to` meets its contract: the claim's span is added, or its number refused.
-- Assumes nothing.
use Prim.Native.Nat.{◌≤◌}
use mathlib.Core.Path.{subst⁻¹}
use Rattle.std.proofs.lemmas.Result.{err_from_is_err_and}
use Rattle.basics.specs.Refused.{number_of}
use Rattle.claim_months.proofs.SpanAnswers.{spanned-bounds}
use Rattle.study.specs.declared.Study.{Study}
use Rattle.study.specs.design.PreparedAdding.{lent_study}
use Rattle.study.proofs.WithSpan.{spanned-weight}
use Rattle.study.proofs.SpanAdds.{with-span, without}
use Rattle.study.proofs.adding.add_to.Goals as goal

pub invariant_of-share : goal.invariant_of-share
invariant_of-share c = record {
  span_bounds = spanned-bounds _ _ _ _ c.in_ok-span.ensures;
  weight_bound = subst⁻¹ (λ k. k ≤ 200) c.weight_of-weight.ensures (spanned-weight _ _ _ _ c.in_ok-span.ensures);
}

pub returns : goal.returns
returns c =
    let study : Study = lent_study c.args.window.window c.args.taken c.args.sums.now in
    let r = c.add_span.ensures in
    let rest = with-span c.args.room c.args.table.now.kind c.args.table.now.numbers.now c.args.claim study _ c.in_ok-span.ensures _ _ _ c.weight_of-weight.ensures r.value r.sums_after in
    record { value = rest.0; sums_after = rest.1 }

pub returns-in_err-span : goal.returns-in_err-span
returns-in_err-span c =
    let study : Study = lent_study c.args.window.window c.args.taken c.args.sums.now in
    let rest = without c.args.room c.args.table.now.kind c.args.table.now.numbers.now c.args.claim study (number_of c.in_err-span.field-0.0) c.in_err-span.ensures in
    let p = err_from_is_err_and c.from_residual.result c.from_residual.ensures.1 in
    record { value = rw (p.1, p.2) rest.0; sums_after = rest.1 }
