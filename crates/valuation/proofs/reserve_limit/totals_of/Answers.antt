-- `valuation::reserve_limit::totals_of` meets its contract. The loop's invariant: both totals are those of the claims done. Assumes nothing.
use Prim.Native.Nat.{ℕ, ◌+◌, ◌≤◌}
use mathlib.Core.Path.{◌≡◌, ap, ◌∙◌}
use native.Mathlib.Omega.{arith}
use Rattle.basics.specs.Refused.{numbered}
use Rattle.valuation.specs.ReserveLimit.{claims_open_in, open_claims_check, reserve_total}
use Rattle.valuation.specs.design.Private.{totals_of}
use Rattle.valuation.proofs.AnswerTests.{passed_on}
use Rattle.valuation.proofs.LimitAnswers.{totals-stay}
use Rattle.valuation.proofs.ReserveLaws.{zero_bits}
use Rattle.valuation.proofs.reserve_limit.totals_of.Goals as goal

pub loop-place-init : goal.loop-place-init
unfolding totals_of open_claims_check reserve_total
loop-place-init c = rw zero_bits

pub with_claim-requires : goal.with_claim-requires
with_claim-requires c = record { place_bound = omega arith; totals_value = c.loop-place.invariant }

pub returns-in_err-totals : goal.returns-in_err-totals
returns-in_err-totals c =
    let place : ℕ = c.loop-place.place in
    let more : place + 1 ≤ claims_open_in c.args.list.now = omega arith in
    ap numbered (passed_on _ _ c.from_residual.ensures)
    ∙ totals-stay _ _ _ _ _ (place + 1) (claims_open_in c.args.list.now) more _ c.in_err-totals.ensures

pub loop-place-preserved : goal.loop-place-preserved
loop-place-preserved c = c.in_ok-totals.ensures

pub returns : goal.returns
returns c =
    let n : ℕ = claims_open_in c.args.list.now in
    let all : c.loop-place.place ≡ n = omega arith in
    rw all at c.loop-place.invariant
