-- `valuation::study_factor::study_factor` meets its contract: what `known_factor` ensures of the positive parts of C and E.
-- Assumes nothing.
use Prim.Native.Nat.{ℕ}
use mathlib.Core.Path.{◌≡◌, ap, ap₂, ◌∙◌}
use mathlib.Core.List.{List}
use lib.IntN.{ℤ, pos, ◌+ℤ◌}
use mir.Syntax.{w64}
use mir.Val.{SFits, to_z, of_z}
use mir.Facts.{to_z-of_z}
use Rattle.study.specs.Sums.{sum_at}
use Rattle.valuation.specs.Factor.{positive, factor_in}
use Rattle.valuation.specs.StudyFactor.{terminations, expected_sum, study_factor}
use Rattle.valuation.proofs.Laws.{of_positive}
use Rattle.valuation.proofs.study_factor.study_factor.Goals as goal
use Rattle.valuation.specs.declared.GroupFactor.{GroupFactor}
use Rattle.std.specs.Prelude.{Result}

-- from a group's sums, with E as its positive part
from-sums : (s : List ℤ) (g n e : ℕ) (r : Result GroupFactor ℕ) → n ≡ positive (sum_at s g 1 +ℤ sum_at s g 2) → e ≡ positive (sum_at s g 6 +ℤ sum_at s g 7)
    → r ≡ factor_in g n (pos e) → r ≡ study_factor s g
unfolding study_factor terminations expected_sum
from-sums s g n e r p q h =
    h ∙ ap₂ (λ (x y : ℕ). factor_in g x (pos y)) p q ∙ of_positive g (positive (sum_at s g 1 +ℤ sum_at s g 2)) (sum_at s g 6 +ℤ sum_at s g 7)

-- the positive part of two sums as they were read
of-read : (s : List ℤ) (g i j : ℕ) {n : ℕ} {x y : ℤ} → SFits w64 x → SFits w64 y → x ≡ sum_at s g i → y ≡ sum_at s g j
    → n ≡ positive (to_z w64 (of_z w64 x) +ℤ to_z w64 (of_z w64 y)) → n ≡ positive (sum_at s g i +ℤ sum_at s g j)
of-read s g i j fx fy p q h = h ∙ ap positive (ap₂ (λ (a b : ℤ). a +ℤ b) (to_z-of_z fx ∙ p) (to_z-of_z fy ∙ q))

pub returns : goal.returns
returns c =
    let s = c.args.sums.now in
    let g = c.args.group in
    from-sums s g _ _ _
    (of-read s g 1 2 (record { sfits = c.sum_at-recovered.type_inv }) (record { sfits = c.sum_at-died.type_inv }) c.sum_at-recovered.ensures
    c.sum_at-died.ensures c.positive_sum.ensures)
    (of-read s g 6 7 (record { sfits = c.sum_at-recoveries.type_inv }) (record { sfits = c.sum_at-deaths.type_inv }) c.sum_at-recoveries.ensures
    c.sum_at-deaths.ensures c.positive_sum-2.ensures)
    c.known_factor.ensures
