-- `study_test::reserves::limit` is safe: no answer carries a NaN, so each total has bits. Assumes nothing.
use Rattle.std.specs.Prelude.{Ok, false, is_nan}
use mathlib.Core.Path.{◌≡◌, ap, ◌∙◌}
use Rattle.valuation.proofs.ReserveLimit.{answer-numbers}
use Rattle.valuation.specs.LimitAnswers.{LimitAnswer, limit_by_number}
use Rattle.valuation.specs.declared.Limit.{Limit}
use Rattle.study_test.proofs.reserves.limit.Goals as goal

with-numbers : (l : Limit) (a : LimitAnswer) → limit_by_number (Ok l) ≡ a
    → (is_nan a.given ≡ false) × (is_nan a.replaced ≡ false) → (is_nan l.given ≡ false) × (is_nan l.replaced ≡ false)
with-numbers l a e h = (ap (λ x. is_nan x.given) e ∙ h.0, ap (λ x. is_nan x.replaced) e ∙ h.1)

pub float_to_bits-given : goal.float_to_bits-given
float_to_bits-given g c = rw (with-numbers _ _ c.in-Ok.ensures (answer-numbers _ _ _ _ _)).0 tt

pub float_to_bits-replaced : goal.float_to_bits-replaced
float_to_bits-replaced g c = rw (with-numbers _ _ c.in-Ok.ensures (answer-numbers _ _ _ _ _)).1 tt
