-- Document 01, Valuation: C and E of a group, from a study's sums.
use Rattle.std.specs.Prelude.{ℕ, ◌≤◌, ◌≡◌, List, ℤ, ◌+ℤ◌, Ok, Result}
use Rattle.basics.specs.Limits.{most_claims}
use Rattle.study.specs.declared.Study.{Study}
use Rattle.study.specs.Sums.{sum_at}
use Rattle.study.specs.Closings.{ClosedOnce}
use Rattle.valuation.specs.Factor.{positive, factors_of, factor_in}
use Rattle.valuation.specs.declared.GroupFactor.{GroupFactor}

-- C = recoveries + deaths of a group; settlements, max-outs and limits don't count. (No claims have a count below 0; handed in, it counts as none)
unfoldable pub terminations : List ℤ → ℕ → ℕ
terminations s g = positive (sum_at s g 1 +ℤ sum_at s g 2)

-- E = both expected sums together
unfoldable pub expected_sum : List ℤ → ℕ → ℤ
expected_sum s g = sum_at s g 6 +ℤ sum_at s g 7

-- z, m and T of a group of some sums, or the number refused
unfoldable pub study_factor : List ℤ → ℕ → Result GroupFactor ℕ
study_factor s g = factor_in g (terminations s g) (expected_sum s g)

-- In a study with no more closings than claims taken (`Closings` of the study layer says which have not), no group's C is above the claims taken. So
-- with at most 500,000 taken, z, m and T of every group are answered. `proofs/StudyFactor.antt` proves it
pub record StudyFactors : Type 0 where
  pub few : (s : Study) (g : ℕ) → ClosedOnce s → terminations s.sums g ≤ s.taken
  pub answered : (s : Study) (g : ℕ) → ClosedOnce s → s.taken ≤ most_claims → 1 ≤ g → g ≤ 5
      → study_factor s.sums g ≡ Ok (factors_of g (terminations s.sums g) (expected_sum s.sums g))
