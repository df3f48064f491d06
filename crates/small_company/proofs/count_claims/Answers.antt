-- `small_company::count_claims` meets its contract. The loop's invariant: what was counted of the claims passed, and the checks of those left.
-- Assumes nothing.
use Prim.Native.Nat.{◌<◌}
use mathlib.Core.Path.{sym, ap, ◌∙◌}
use native.Mathlib.Omega.{arith}
use Rattle.basics.specs.Refused.{numbered}
use Rattle.claim_months.specs.Claim.{claim_check}
use Rattle.claim_months.proofs.Sound.{sound}
use Rattle.small_company.specs.design.Private.{with_one}
use Rattle.small_company.proofs.Listing.{list-padded, record-there, its-claim}
use Rattle.small_company.proofs.Refusals.{passed_on}
use Rattle.small_company.proofs.Counting.{begins, is-padded, refused, walks-on, ends}
use Rattle.small_company.proofs.count_claims.Goals as goal

pub loop-place-init : goal.loop-place-init
loop-place-init c = begins _ _ _ (list-padded _ c.requires)

pub unwrap-claim-requires : goal.unwrap-claim-requires
unwrap-claim-requires c =
    let l = c.loop-place in
    rw c.read_record.ensures (record-there _ l.place (omega arith) (is-padded _ _ _ l.place l.counts l.invariant (omega arith)))

pub returns-in_err-check : goal.returns-in_err-check
returns-in_err-check c =
    let l = c.loop-place in
    let padded = is-padded _ _ _ l.place l.counts l.invariant (omega arith) in
    let claim-is = its-claim _ l.place (omega arith) padded _ (sym c.read_record.ensures ∙ c.unwrap-claim.ensures) in
    ap numbered (passed_on _ _ c.from_residual.ensures)
    ∙ refused _ _ _ l.place l.counts l.invariant (omega arith) _ (c.in_err-check.ensures ∙ ap claim_check claim-is)

pub count_one-counts-requires : goal.count_one-counts-requires
count_one-counts-requires c =
    let few : c.loop-place.place < 18446744073709551615 = omega arith in
    record { disability_value = (sound _ (sym c.in_ok-check.ensures)).disability-date; recent_bound = omega arith; earlier_bound = omega arith }

pub loop-place-preserved : goal.loop-place-preserved
loop-place-preserved c =
    let l = c.loop-place in
    let padded = is-padded _ _ _ l.place l.counts l.invariant (omega arith) in
    let claim-is = its-claim _ l.place (omega arith) padded _ (sym c.read_record.ensures ∙ c.unwrap-claim.ensures) in
    walks-on _ _ _ l.place l.counts l.invariant (omega arith) c.count_one-counts.result
    (sym (c.in_ok-check.ensures ∙ ap claim_check claim-is))
    (c.count_one-counts.ensures ∙ ap (with_one c.args.first.0 c.args.last.0 l.counts) claim-is)

pub returns : goal.returns
returns c = let l = c.loop-place in ends _ _ _ l.place l.counts (omega arith) l.invariant

pub overflow_mul-place : goal.overflow_mul-place
overflow_mul-place c = omega (arith, c.loop-place.invariant.place-high)
