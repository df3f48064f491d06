-- `valuation::factor::root` meets its contract. The loop's invariant: low² × unit is at most bound, high² × unit is above it, and low is below high, so that where they are neighbours low is the root. The measure is high - low, which each turn about halves.
-- Assumes nothing.
use Prim.Native.Nat.{ℕ, ◌+◌, ◌-◌, ◌/◌, ◌≤◌}
use native.Mathlib.Omega.{arith}
use native.Mathlib.Nat.{mul-le-mul, mul-le-mul_right}
use Rattle.valuation.proofs.factor.root.Goals as goal

pub overflow_mul-middle : goal.overflow_mul-middle
overflow_mul-middle c =
    let middle : ℕ = c.loop-low.low + (c.loop-low.high - c.loop-low.low) / 2 in
    let middle-high : middle ≤ 1000000 = omega arith in
    omega (arith, mul-le-mul middle-high middle-high)

pub overflow_mul-middle-in-loop-low : goal.overflow_mul-middle-in-loop-low
overflow_mul-middle-in-loop-low c =
    let middle : ℕ = c.loop-low.low + (c.loop-low.high - c.loop-low.low) / 2 in
    let middle-high : middle ≤ 1000000 = omega arith in
    omega (arith, mul-le-mul (mul-le-mul middle-high middle-high) c.requires.0)

-- low and high are neighbours
pub returns : goal.returns
returns c =
    let h : c.loop-low.high ≤ c.loop-low.low + 1 = omega arith in
    omega (arith, mul-le-mul_right c.args.unit (mul-le-mul h h))
