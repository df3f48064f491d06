-- `valuation::reserve_factor::reserve_check` meets its contract: each way out has the definition's tests that lead there. Assumes nothing.
use Prim.Native.Nat.{ℕ, ◌≤◌}
use mathlib.Core.Path.{◌≡◌, sym, ap, ◌∙◌}
use mathlib.Core.Bool.{Bool, true, false, ◌&&◌, and-false}
use mathlib.Core.Logic.{⊎_elim}
use borrow.Author.Tests.{le-leb, lt-leb}
use lib.Dec.{leb}
use Rattle.basics.specs.Refused.{number_refused}
use Rattle.valuation.specs.Rate.{duration_sound}
use Rattle.valuation.specs.Reserve.{discount_sound}
use Rattle.valuation.proofs.AnswerTests.{
  passed_on,
  table-refused,
  reserve-duration,
  reserve-discount,
  reserve-passes,
  discount-passes,
  discount-over,
  discount-under,
}
use Rattle.valuation.proofs.reserve_factor.reserve_check.Goals as goal
use Rattle.valuation.proofs.reserve_factor.reserve_check.Goals.{else-v-via-then-v+else-v-2, else-v-via-else-v}

pub returns-in_err-check : goal.returns-in_err-check
returns-in_err-check c = ap number_refused (passed_on _ _ c.from_residual.ensures) ∙ table-refused _ _ _ _ _ _ c.in_err-check.ensures

in-range : (first months : ℕ) → true ≡ duration_sound first → months ≤ 480 → (duration_sound first && leb months 480) ≡ true
in-range first months h l = rw (← h, le-leb months 480 l)

pub returns-then-not-has_rate : goal.returns-then-not-has_rate
returns-then-not-has_rate c =
    let first : ℕ = c.args.first.0 in
    let months : ℕ = c.args.months in
    let out : (duration_sound first && leb months 480) ≡ false
    = ⊎_elim (λ h. ap (λ (s : Bool). s && leb months 480) (sym c.has_rate.ensures ∙ h)) (λ p. simp (lt-leb months 480 p.1, and-false))
    c.then-not-has_rate.either in
    reserve-duration _ _ _ _ _ c.in_ok-check.ensures out

pub returns-then-v-2 : goal.returns-then-v-2
returns-then-v-2 c =
    reserve-passes _ _ _ _ _ c.in_ok-check.ensures (in-range _ _ c.if-not-has_rate.ensures c.if-months-gt-LAST_DURATION.false)
    (discount-passes _ c.if-v.true c.if-v-2.true)

pub returns : goal.returns
returns c =
    let out : discount_sound c.args.v ≡ false
    = elim c.else-v.branch [
      | else-v-via-then-v+else-v-2 w ↦ discount-over _ w.if-v-2.false
      | else-v-via-else-v w ↦ discount-under _ w.if-v.false
    ] in
    reserve-discount _ _ _ _ _ c.in_ok-check.ensures (in-range _ _ c.if-not-has_rate.ensures c.if-months-gt-LAST_DURATION.false) out
