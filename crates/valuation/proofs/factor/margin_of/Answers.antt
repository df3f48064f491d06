-- `valuation::factor::margin_of` meets its contract: one above the root that was found is r, since no other number is the smallest.
-- Assumes nothing.
use Prim.Native.Nat.{ℕ, ◌+◌, ◌-◌, ◌*◌, ◌≤◌, ◌<◌, min}
use mathlib.Core.Path.{◌≡◌, sym, ap, ◌∙◌}
use native.Mathlib.Omega.{arith}
use native.Mathlib.Nat.{mul-le-mul, mul-le-mul_right}
use lib.Dec.{leb}
use borrow.Author.Tests.{le-leb, lt-leb, leb-true}
use Rattle.basics.proofs.Tests.{tests, by}
use Rattle.valuation.specs.Factor.{smallest, group_twice_a, r_reaches, margin}
use Rattle.valuation.proofs.Laws.{smallest-one, smallest-at, r-rises, root_is, margin-above, twice-a-bounds}
use Rattle.valuation.proofs.factor.margin_of.Goals as goal

next : (g c a q : ℕ) → a ≡ group_twice_a g → 1 ≤ c → q * q * c ≤ 530450000000 * a - 1 → 530450000000 * a - 1 < (q + 1) * (q + 1) * c → q + 1 ≡ smallest (r_reaches g c) 2060000
unfolding r_reaches
next g c a q s l low high =
    let misses : q * q * c < 530450000000 * group_twice_a g = omega (arith, twice-a-bounds g) in
    let has : 530450000000 * group_twice_a g ≤ (q + 1) * (q + 1) * c = omega arith in
    smallest-one (smallest-at (r-rises g c) (lt-leb _ _ misses) (le-leb _ _ has)) (root_is g c l)

pub returns-then-terminations-eq0 : goal.returns-then-terminations-eq0
unfolding margin
returns-then-terminations-eq0 c = rw c.if-terminations-eq0.true

pub overflow_mul-bound : goal.overflow_mul-bound
overflow_mul-bound c = omega (arith, twice-a-bounds c.args.group)

pub overflow_sub-bound : goal.overflow_sub-bound
overflow_sub-bound c = omega (arith, twice-a-bounds c.args.group)

-- an r below 120,000 would reach
ceiling : (g c a : ℕ) → a ≡ group_twice_a g → 1 ≤ c → 14400000000 * c ≤ 530450000000 * a - 1 → 120000 ≤ smallest (r_reaches g c) 2060000
unfolding r_reaches
ceiling g c a s l h =
    let r : ℕ = smallest (r_reaches g c) 2060000 in
    let has : 530450000000 * group_twice_a g ≤ r * r * c = leb-true _ _ (root_is g c l).has in
    by (leb 120000 r) (λ _. 120000 ≤ r) (λ q. omega tests)
    (λ q.
    let few : r ≤ 120000 = omega tests in
    absurd (omega (arith, twice-a-bounds g, mul-le-mul_right c (mul-le-mul few few))))

pub overflow_mul-terminations : goal.overflow_mul-terminations
overflow_mul-terminations c = omega arith

pub returns-then-terminations-bound : goal.returns-then-terminations-bound
returns-then-terminations-bound c =
    let a = c.args in
    let l : 1 ≤ a.terminations = omega arith in
    let most = ceiling a.group a.terminations _ c.twice_a_of.ensures l (omega arith) in
    omega (arith, margin-above a.group a.terminations l, most)

pub root-requires : goal.root-requires
root-requires c = omega (arith, twice-a-bounds c.args.group)

pub returns : goal.returns
returns c =
    let a = c.args in
    let r = c.root.ensures in
    let l : 1 ≤ a.terminations = omega arith in
    omega (arith, margin-above a.group a.terminations l, next a.group a.terminations _ _ c.twice_a_of.ensures l r.1 r.2)
