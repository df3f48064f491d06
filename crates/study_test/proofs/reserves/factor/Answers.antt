-- `study_test::reserves::factor` is safe: no answer carries a NaN, so each factor has bits. Assumes nothing.
use mathlib.Core.Path.{sym, ◌∙◌}
use Rattle.valuation.proofs.Number.{answer-number}
use Rattle.study_test.proofs.reserves.factor.Goals as goal

pub float_to_bits-x : goal.float_to_bits-x
float_to_bits-x g c =
    let called = c.reserve_factor-answer in
    rw (answer-number _ _ _ _ _ _ _ (sym called.ensures ∙ c.in-Factor.is)) tt
