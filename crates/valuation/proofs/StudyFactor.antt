-- C of a group is two of its closing counts, so it is no more than all closings of the study. Assumes nothing.
use Prim.Native.Nat.{ℕ, ◌≤◌}
use mathlib.Core.Path.{◌≡◌, refl}
use mathlib.Core.List.{List}
use lib.IntN.{ℤ, pos, negsuc, nat_abs, ◌+ℤ◌}
use borrow.Author.Tests.{le-leb}
use Rattle.basics.specs.Limits.{most_claims}
use Rattle.basics.proofs.Tests.{tests}
use Rattle.basics.proofs.Integers.{size-sum}
use Rattle.study.specs.declared.Study.{Study}
use Rattle.study.specs.Sums.{sum_at}
use Rattle.study.specs.Closings.{group_closings, ClosedOnce}
use Rattle.study.proofs.Closings.{group-of-all}
use Rattle.valuation.specs.Factor.{positive, factor_sound, factors_of, factor_in}
use Rattle.valuation.specs.StudyFactor.{terminations, expected_sum, study_factor, StudyFactors}
use Rattle.std.specs.Prelude.{Ok}

positive-size : (x : ℤ) → positive x ≤ nat_abs x
unfolding positive
positive-size (pos n) = omega tests
positive-size (negsuc n) = omega tests

in-its-group : (s : List ℤ) (g : ℕ) → terminations s g ≤ group_closings s g
unfolding terminations group_closings
in-its-group s g = omega (tests, positive-size (sum_at s g 1 +ℤ sum_at s g 2), size-sum (sum_at s g 1) (sum_at s g 2))

few-closings : (s : Study) (g : ℕ) → ClosedOnce s → terminations s.sums g ≤ s.taken
few-closings s g once = omega (tests, in-its-group s.sums g, group-of-all s.sums g, once)

known-factor : (s : List ℤ) (g : ℕ) → terminations s g ≤ most_claims → 1 ≤ g → g ≤ 5
    → study_factor s g ≡ Ok (factors_of g (terminations s g) (expected_sum s g))
unfolding study_factor factor_in factor_sound
known-factor s g few low high = rw (le-leb 1 g low, le-leb g 5 high, le-leb (terminations s g) most_claims few) refl

pub study-factors : StudyFactors
study-factors =
    record {
      few = few-closings;
      answered = λ s g once taken low high.
          let few : terminations s.sums g ≤ most_claims = omega (tests, few-closings s g once, taken) in
          known-factor s.sums g few low high;
    }
