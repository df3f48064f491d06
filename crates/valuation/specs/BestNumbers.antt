-- Document 01, Valuation: z is the largest number, and r the smallest, that the paper asks for, and no other number is. Said of what the call for z, m
-- and T answers in the groups 2 to 5; `proofs/BestNumbers.antt` proves it
use Rattle.std.specs.Prelude.{ℕ, ◌+◌, ◌≤◌, min, ◌≡◌, ℤ, Ok}
use Rattle.valuation.specs.declared.GroupFactor.{GroupFactor}
use Rattle.valuation.specs.Factor.{IsLargest, IsSmallest, positive, z_reaches, r_reaches, factor_in}

pub record BestNumbers (g c : ℕ) (e : ℤ) (f : GroupFactor) : Type 0 where
  -- z is the largest q ≤ 1,000,000 with q² × 30 × K ≤ 1,000,000 × E, and no other is; 0 if E ≤ 0
  pub largest : IsLargest (z_reaches g e) 1000000 f.z
  pub one_largest : (q : ℕ) → IsLargest (z_reaches g e) 1000000 q → q ≡ f.z
  pub no_expected : positive e ≡ 0 → f.z ≡ 0
  -- above 0, C has an r, the smallest whole number with r² × C ≥ 1,060,900,000,000 × A; with any such r, m is min(150,000, 30,000 + r). 150,000 if C = 0
  pub smallest : 1 ≤ c → (r : ℕ) × IsSmallest (r_reaches g c) r
  pub margin_of : 1 ≤ c → (r : ℕ) → IsSmallest (r_reaches g c) r → f.m ≡ min 150000 (30000 + r)
  pub no_closing : c ≡ 0 → f.m ≡ 150000

abbrev pub BestOfGroups : Type 0
BestOfGroups = (g c : ℕ) (e : ℤ) (f : GroupFactor) → 2 ≤ g → factor_in g c e ≡ Ok f → BestNumbers g c e f
