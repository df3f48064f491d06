-- `valuation::factor::t_of` meets its contract. Its largest product is 1,000,000 × 30 × 500,000 × 970,000, which 64 bits hold.
-- Assumes nothing.
use Prim.Native.Nat.{ℕ, ◌-◌, ◌*◌, ◌≤◌}
use native.Mathlib.Omega.{arith}
use native.Mathlib.Nat.{mul-le-mul, div-le_self}
use borrow.Author.Tests.{eq-eqb, ne_eqb}
use Rattle.valuation.proofs.factor.t_of.Goals as goal

counts-fit : (z c : ℕ) → z ≤ 1000000 → c ≤ 500000 → z * 30 * c ≤ 15000000000000
counts-fit z c h i =
    let j : z * 30 ≤ 30000000 = omega arith in
    mul-le-mul j i

product-fits : (z c m : ℕ) → z ≤ 1000000 → c ≤ 500000 → 30000 ≤ m → z * 30 * c * (1000000 - m) ≤ 14550000000000000000
product-fits z c m h i l =
    let j : 1000000 - m ≤ 970000 = omega arith in
    mul-le-mul (counts-fit z c h i) j

pub returns-then-expected-eq0 : goal.returns-then-expected-eq0
returns-then-expected-eq0 c = simp (eq-eqb _ _ c.if-expected-eq0.true)

pub overflow_mul-result-2 : goal.overflow_mul-result-2
overflow_mul-result-2 c =
    let p = c.requires in
    omega (arith, counts-fit _ _ p.0 p.3)

pub overflow_mul-result-3 : goal.overflow_mul-result-3
overflow_mul-result-3 c =
    let p = c.requires in
    omega (arith, product-fits _ _ _ p.0 p.3 p.1)

pub overflow_add-result : goal.overflow_add-result
overflow_add-result c =
    let p = c.requires in
    let a = c.args in
    omega (arith, product-fits _ _ _ p.0 p.3 p.1, div-le_self (a.z * 30 * a.terminations * (1000000 - a.m)) a.expected)

pub returns : goal.returns
returns c = simp (ne_eqb _ _ c.if-expected-eq0.false)
