-- Document 02, request No. 7: of claims whose benefits are all 0 or 1 the weighted set is the first. `proofs/Weighting.antt` proves it
use Rattle.std.specs.Prelude.{ℕ, ◌+◌, ◌≤◌, ◌<◌, ◌≡◌, List, [], ◌∷◌, get_or, pos}
use Rattle.claim_months.specs.declared.Claim.{Claim}
use Rattle.claim_months.specs.declared.Window.{Window}
use Rattle.study.specs.Study.{study_of}

-- every claim of a list has the benefit 0 or 1
abbrev pub AllWeighOne : List Claim → Type 0
AllWeighOne [] = Unit {0}
AllWeighOne (c ∷ cs) = (c.benefit ≤ 1) × AllWeighOne cs

abbrev pub WeighsAsCounts : Type 0
WeighsAsCounts =
    (w : Window) (rates : List ℕ) (cs : List Claim) → AllWeighOne cs → (k : ℕ) → k < 40
    → get_or (study_of w rates cs).sums (k + 40) (pos 0) ≡ get_or (study_of w rates cs).sums k (pos 0)
