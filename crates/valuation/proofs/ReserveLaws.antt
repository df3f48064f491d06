-- Laws of the valuation rate, of the running values and of the checks. Assumes nothing.
use Prim.Native.Nat.{ℕ, ◌≤◌}
use mathlib.Core.Path.{◌≡◌, refl}
use mathlib.Core.Bool.{true, ◌&&◌, and-eq-true_iff}
use mathlib.Core.List.{List}
use native.Mathlib.Omega.{arith}
use lib.Dec.{leb}
use lib.Ieee.{Float, binary64, of_int, of_bits}
use Rattle.basics.specs.Checks.{check}
use Rattle.basics.proofs.Checks.{check-passed, then-passed}
use Rattle.basics.proofs.Tests.{tests}
use Rattle.rates.specs.Rates.{rate_check}
use Rattle.valuation.specs.Rate.{valuation_rate, duration_sound}
use Rattle.valuation.specs.Reserve.{float, month_rate, discount_sound, reserve_check}

pub rate-bound : (rates : List ℕ) (cell t d : ℕ) → valuation_rate rates cell t d ≤ 1000000
unfolding valuation_rate
rate-bound rates cell t d = omega arith

pub month-rate-bound : (rates : List ℕ) (cell first : ℕ) (t : List ℕ) (n : ℕ) → month_rate rates cell first t n ≤ 1000000
unfolding month_rate
month-rate-bound rates cell first t n = rate-bound rates cell _ _

-- what passing the checks says of each of them
pub reserve-passed :
    (rates : List ℕ) (cell first months : ℕ) (v : Float) → reserve_check rates cell first months v ≡ 0
    → (rate_check rates cell ≡ 0) × (first ≤ 480) × (months ≤ 480) × (discount_sound v ≡ true)
unfolding reserve_check duration_sound
reserve-passed rates cell first months v e =
    let p = then-passed (rate_check rates cell) _ e in
    let q = then-passed (check (duration_sound first && leb months 480) 12) _ p.1 in
    let n = simp and-eq-true_iff at (check-passed (duration_sound first && leb months 480) 12 (omega arith) q.0) in
    (p.0, omega tests, omega tests, check-passed (discount_sound v) 13 (omega arith) q.1)

-- the code's constants, by their bits, are the definitions' whole numbers
pub zero_bits : of_bits binary64 0 ≡ float 0
unfolding float of_int of_bits
zero_bits = refl

pub one-bits : of_bits binary64 0x3ff0_0000_0000_0000 ≡ float 1
unfolding float of_int of_bits
one-bits = refl

pub million-bits : of_bits binary64 0x412e_8480_0000_0000 ≡ float 1000000
unfolding float of_int of_bits
million-bits = refl
