-- Document 01, Valuation: z, m and T of a group, from C (recoveries plus deaths) and E (both expected sums together, unit 1/30,000,000 of a count).
use Rattle.std.specs.Prelude.{ℕ, zero, suc, ◌+◌, ◌-◌, ◌*◌, ◌/◌, ◌≤◌, min, ◌≡◌, Bool, true, ◌&&◌, leb, eqb, ℤ, pos, negsuc, Err, Ok, Result}
use Rattle.basics.specs.Limits.{most_claims}
use Rattle.basics.specs.Pick.{pick}
use Rattle.basics.specs.Checks.{refuse_valuation}
use Rattle.valuation.specs.declared.GroupFactor.{GroupFactor}

-- q is the largest number up to n with a property: it has it, and no better one does
pub record IsLargest (P : ℕ → Bool) (n q : ℕ) : Type 0 where
  pub within : q ≤ n
  pub has : P q ≡ true
  pub best : (k : ℕ) → k ≤ n → P k ≡ true → k ≤ q

-- r is the smallest whole number with a property
pub record IsSmallest (P : ℕ → Bool) (r : ℕ) : Type 0 where
  pub has : P r ≡ true
  pub best : (k : ℕ) → P k ≡ true → r ≤ k

-- the largest number up to n with a property that 0 has (`BestNumbers` says of the call's z that it is)
unfoldable pub largest : (ℕ → Bool) → ℕ → ℕ
largest P zero = 0
largest P (suc n) = pick (P (suc n)) (suc n) (largest P n)

-- the smallest number with a property that n has (`BestNumbers` says of m's r that it is)
unfoldable pub smallest : (ℕ → Bool) → ℕ → ℕ
smallest P zero = 0
smallest P (suc n) = pick (P (smallest P n)) (smallest P n) (suc n)

-- K of the groups 2 to 5
unfoldable pub group_k : ℕ → ℕ
group_k g = pick (eqb g 2) 3300 (pick (eqb g 3) 2500 (pick (eqb g 4) 2100 1700))

-- twice A of the groups 2 to 5: A is 4, 3, 2.5 and 2
unfoldable pub group_twice_a : ℕ → ℕ
group_twice_a g = pick (eqb g 2) 8 (pick (eqb g 3) 6 (pick (eqb g 4) 5 4))

-- a positive E as a number; 0 if E ≤ 0
unfoldable pub positive : ℤ → ℕ
positive (pos e) = e
positive (negsuc e) = 0

-- z: 0 if E ≤ 0; else the largest q ≤ 1,000,000 with q² × 30 × K ≤ 1,000,000 × E
unfoldable pub z_reaches : ℕ → ℤ → ℕ → Bool
z_reaches g e q = leb (q * q * 30 * group_k g) (1000000 * positive e)

unfoldable pub credibility : ℕ → ℤ → ℕ
credibility g e = largest (z_reaches g e) 1000000

-- r, the smallest whole number with r² × C ≥ 1,060,900,000,000 × A; in halves, since A may be 2.5
unfoldable pub r_reaches : ℕ → ℕ → ℕ → Bool
r_reaches g c r = leb (530450000000 * group_twice_a g) (r * r * c)

-- m: 150,000 if C = 0; else min(150,000, 30,000 + r). Every C above 0 has an r of at most 2,060,000
unfoldable pub margin : ℕ → ℕ → ℕ
margin g c = pick (eqb c 0) 150000 (min 150000 (30000 + smallest (r_reaches g c) 2060000))

-- T, which has no ceiling (document 02, request No. 9): floor(z × 30 × C × (1,000,000 − m) / E) + 1,000,000 − z; 1,000,000 if E ≤ 0
unfoldable pub factor_of : ℕ → ℕ → ℤ → ℕ
factor_of g c e =
    pick (eqb (positive e) 0) 1000000
    (credibility g e * 30 * c * (1000000 - margin g c) / positive e + (1000000 - credibility g e))

-- 12, valuation: group outside 1–5, C over 500,000
unfoldable pub factor_sound : ℕ → ℕ → Bool
factor_sound g c = leb 1 g && leb g 5 && leb c most_claims

-- z, m and T of a group. Group 1: T = 1,000,000, z and m 0
unfoldable pub factors_of : ℕ → ℕ → ℤ → GroupFactor
factors_of g c e =
    pick (eqb g 1) (record { z = 0; m = 0; t = 1000000 })
    (record { z = credibility g e; m = margin g c; t = factor_of g c e })

-- what the call for z, m and T answers
unfoldable pub factor_in : ℕ → ℕ → ℤ → Result GroupFactor ℕ
factor_in g c e = pick (factor_sound g c) (Ok (factors_of g c e)) (Err refuse_valuation)
