-- `valuation::factor::credibility_of` meets its contract: where E is large enough z is full, else the root that was found is z, since no other number is the largest.
-- Assumes nothing.
use Prim.Native.Nat.{ℕ, ◌+◌, ◌*◌, ◌≤◌, ◌<◌}
use mathlib.Core.Path.{◌≡◌}
use native.Mathlib.Omega.{arith}
use native.Mathlib.Nat.{mul_assoc, mul-le-mul, mul-le-mul_right}
use borrow.Author.Tests.{le-leb, lt-leb}
use lib.IntN.{pos}
use Rattle.valuation.specs.Factor.{group_k, positive, z_reaches, credibility}
use Rattle.valuation.proofs.Laws.{largest-one, largest-at, largest-full, z-falls, credibility-is, k-high}
use Rattle.valuation.proofs.factor.credibility_of.Goals as goal

full : (g e : ℕ) → 30 * group_k g * 1000000 ≤ e → 1000000 ≡ credibility g (pos e)
unfolding z_reaches positive
full g e h =
    let i : 1000000 * 1000000 * 30 * group_k g ≤ 1000000 * e = omega arith in
    largest-one (largest-full (le-leb _ _ i)) (credibility-is g (pos e))

part : (g e k q : ℕ) → k ≡ group_k g → e < 30 * k * 1000000 → q * q * (30 * k) ≤ 1000000 * e → 1000000 * e < (q + 1) * (q + 1) * (30 * k) → q ≡ credibility g (pos e)
unfolding z_reaches positive
part g e k q s h low high =
    let no : (1000000 ≤ q → ⊥) = λ t. omega (arith, mul-le-mul_right (30 * k) (mul-le-mul t t)) in
    let below : q ≤ 1000000 = omega arith in
    let has : q * q * 30 * group_k g ≤ 1000000 * e = rw (← s, mul_assoc (q * q) 30 k) low in
    let misses : 1000000 * e < (q + 1) * (q + 1) * 30 * group_k g = rw (← s, mul_assoc ((q + 1) * (q + 1)) 30 k) high in
    largest-one (largest-at (z-falls g (pos e)) below (le-leb _ _ has) (lt-leb _ _ misses)) (credibility-is g (pos e))

pub overflow_mul-unit : goal.overflow_mul-unit
overflow_mul-unit c = omega (arith, k-high c.args.group)

pub overflow_mul-unit-2 : goal.overflow_mul-unit-2
overflow_mul-unit-2 c = omega (arith, k-high c.args.group)

pub returns-then-unit-expected : goal.returns-then-unit-expected
returns-then-unit-expected c = full c.args.group c.args.expected (omega arith)

pub overflow_mul-expected : goal.overflow_mul-expected
overflow_mul-expected c = omega (arith, k-high c.args.group)

pub root-requires : goal.root-requires
root-requires c = omega (arith, k-high c.args.group)

pub returns : goal.returns
returns c =
    let r = c.root.ensures in
    part c.args.group c.args.expected _ _
    c.k_of-unit.ensures c.if-unit-expected.false r.1 r.2
