-- Document 02, request No. 11: how many closings reach a wanted factor.
use Rattle.std.specs.Prelude.{ℕ, ◌≤◌, ◌<◌, ◌≡◌, Bool, true, false, ◌&&◌, leb, ℤ, Err, Ok, Result}
use Rattle.basics.specs.Limits.{most_claims}
use Rattle.basics.specs.Pick.{pick}
use Rattle.basics.specs.Checks.{refuse_valuation, refuse_no_count}
use Rattle.valuation.specs.declared.GroupFactor.{GroupFactor}
use Rattle.valuation.specs.Factor.{smallest, factors_of, factor_in}

-- T of a count C, as the call for z, m and T gives it, is at least the wanted one
unfoldable pub reaches_wanted : ℕ → ℤ → ℕ → ℕ → Bool
reaches_wanted g e wanted c = leb wanted (factors_of g c e).t

-- a group is 1 to 5
unfoldable pub good_group : ℕ → Bool
good_group g = leb 1 g && leb g 5

-- the smallest C from 0 to 500,000 whose T reaches the wanted one. A bad group is 12; where no such count is, 19
unfoldable pub wanted_in : ℕ → ℤ → ℕ → Result ℕ ℕ
wanted_in g e wanted =
    pick (good_group g)
    (pick (reaches_wanted g e wanted most_claims) (Ok (smallest (reaches_wanted g e wanted) most_claims)) (Err refuse_no_count))
    (Err refuse_valuation)

-- on the answers of the call for z, m and T: a count reaches the wanted T, or falls short of it
abbrev pub Reaches : ℕ → ℤ → ℕ → ℕ → Type 0
Reaches g e wanted c = (f : GroupFactor) × (factor_in g c e ≡ Ok f) × (wanted ≤ f.t)

abbrev pub FallsShort : ℕ → ℤ → ℕ → ℕ → Type 0
FallsShort g e wanted c = (f : GroupFactor) × (factor_in g c e ≡ Ok f) × (f.t < wanted)

-- c is the smallest count that reaches it
abbrev pub IsWanted : ℕ → ℤ → ℕ → ℕ → Type 0
IsWanted g e wanted c = (c ≤ most_claims) × Reaches g e wanted c × ((k : ℕ) → k < c → FallsShort g e wanted k)

-- A count is answered exactly if the group is good, T of it is at least the wanted one and T of every smaller count is less; 19 exactly if the
-- group is good and T of every count up to 500,000 is less; 12 exactly if the group is bad. `proofs/WantedCount.antt` proves it
pub record WantedCounts (g : ℕ) (e : ℤ) (wanted : ℕ) : Type 0 where
  pub count : (c : ℕ) → wanted_in g e wanted ≡ Ok c → (good_group g ≡ true) × IsWanted g e wanted c
  pub count_is : (c : ℕ) → good_group g ≡ true → IsWanted g e wanted c → wanted_in g e wanted ≡ Ok c
  pub none : wanted_in g e wanted ≡ Err 19 → (good_group g ≡ true) × ((k : ℕ) → k ≤ most_claims → FallsShort g e wanted k)
  pub is_none : good_group g ≡ true → ((k : ℕ) → k ≤ most_claims → FallsShort g e wanted k) → wanted_in g e wanted ≡ Err 19
  pub bad : wanted_in g e wanted ≡ Err 12 → good_group g ≡ false
  pub is_bad : good_group g ≡ false → wanted_in g e wanted ≡ Err 12

abbrev pub WantedCount : Type 0
WantedCount = (g : ℕ) (e : ℤ) (wanted : ℕ) → WantedCounts g e wanted
