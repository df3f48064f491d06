-- A study as a list of 83 numbers.
use Rattle.std.specs.Prelude.{ℕ, List, ◌∷◌, ℤ, pos}
use Rattle.study.specs.declared.Study.{Study}

-- the numbers of a study: first day, last day, claims taken, and its 80 sums
unfoldable pub study_numbers : Study → List ℤ
study_numbers s = pos s.window.first.0 ∷ pos s.window.last.0 ∷ pos s.taken ∷ s.sums

-- a run's study with the place where it ended before it: number refused, block and claim place
unfoldable pub placed_numbers : ℕ → ℕ → ℕ → Study → List ℤ
placed_numbers number block place s = pos number ∷ pos block ∷ pos place ∷ study_numbers s
