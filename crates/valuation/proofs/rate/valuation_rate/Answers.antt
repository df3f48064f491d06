-- `valuation::rate::valuation_rate` meets its contract: each way out has the definition's tests that lead there. Assumes nothing.
use mathlib.Core.Path.{sym, ap, ◌∙◌}
use Rattle.basics.specs.Refused.{numbered}
use Rattle.valuation.proofs.AnswerTests.{passed_on, rate-refused, rate-duration, rate-found}
use Rattle.valuation.proofs.rate.valuation_rate.Goals as goal

pub returns-in_err-check : goal.returns-in_err-check
returns-in_err-check c = ap numbered (passed_on _ _ c.from_residual.ensures) ∙ rate-refused _ _ _ _ _ c.in_err-check.ensures

pub returns-then-not-has_rate : goal.returns-then-not-has_rate
returns-then-not-has_rate c = rate-duration _ _ _ _ c.in_ok-check.ensures (sym c.has_rate.ensures ∙ c.if-not-has_rate.true)

pub returns : goal.returns
returns c = rw c.rate_of.ensures (rate-found _ _ _ _ c.in_ok-check.ensures (sym c.has_rate.ensures ∙ c.if-not-has_rate.false))
