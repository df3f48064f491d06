-- Document 02, request No. 8, by the leaves: however a list of built studies is pooled, in any order and with any number of fresh studies among them,
-- every join answers 0 and the result is one and the same study. `proofs/PoolOrders.antt` proves it
use Rattle.std.specs.Prelude.{ℕ, ◌≤◌, ◌≡◌, List, [], ◌∷◌, ◌++◌, ◌⊎◌, length}
use Rattle.basics.specs.Limits.{most_claims}
use Rattle.claim_months.specs.declared.Claim.{Claim}
use Rattle.study.specs.Study.{study_of}
use Rattle.study.specs.Moves.{Move, remaining, Allowed, Dates, dates_of, Accepted}
use Rattle.study.specs.PoolTrees.{PoolTree, leaves, pooled, pool_refusal}

-- the claims remaining of some studies, one list after the other; every withdrawal in them is allowed
unfoldable pub claims_of : List ℕ → List (List Move) → List Claim
claims_of rates [] = []
claims_of rates (ms ∷ studies) = remaining rates ms ++ claims_of rates studies

unfoldable pub AllAllowed : List ℕ → List (List Move) → Type 0
AllAllowed rates [] = Unit {0}
AllAllowed rates (ms ∷ studies) = Allowed rates ms × AllAllowed rates studies

-- some leaves are these studies, each once and in any order, with any number of fresh studies, built by no moves, among them
unfoldable pub Arranged : List (List Move) → List (List Move) → Type 0
Arranged [] studies = studies ≡ []
Arranged (l ∷ ls) studies =
    ((l ≡ []) × Arranged ls studies)
    ⊎ ((before : List (List Move)) × (after : List (List Move)) × (studies ≡ before ++ (l ∷ after)) × Arranged ls (before ++ after))

abbrev pub AnyOrder : Type 0
AnyOrder =
    (rates : List ℕ) (d : Dates) (studies : List (List Move)) → Accepted d → AllAllowed rates studies → length (claims_of rates studies) ≤ most_claims
    → (t : PoolTree) → Arranged (leaves t) studies
    → (pool_refusal rates d t ≡ 0) × (pooled rates d t ≡ study_of (dates_of d) rates (claims_of rates studies))
