-- `rates::group` meets its contract: in each group the bounds that the durations are above are counted. Assumes nothing.
use Prim.Native.Nat.{ℕ, ◌+◌, ◌≤◌, ◌<◌}
use mathlib.Core.Path.{◌≡◌, ◌∙◌}
use native.Mathlib.Omega.{arith}
use borrow.Author.Tests.{lt-ltb, le-ltb}
use Rattle.rates.specs.design.Private.{one_above}
use Rattle.rates.proofs.Laws.{by-group}
use Rattle.rates.proofs.group.Goals as goal

-- what is counted for a bound
counts : (b d r : ℕ) → r ≡ one_above b d → (d ≤ b → r ≡ 0) × (b < d → r ≡ 1)
unfolding one_above
counts b d r e = (λ h. e ∙ simp (le-ltb b d h), λ h. e ∙ simp (lt-ltb b d h))

pub returns : goal.returns
returns c =
    let one = c.above in
    let two = c.above-2 in
    let three = c.above-3 in
    let four = c.above-4 in
    let a = counts _ _ _ one.ensures.value in
    let b = counts _ _ _ two.ensures.value in
    let e = counts _ _ _ three.ensures.value in
    let f = counts _ _ _ four.ensures.value in
    by-group c.args.duration.0 (λ g _. 1 + one.result + two.result + three.result + four.result ≡ g)
    (λ p. omega (arith, a.0 (omega arith), b.0 (omega arith), e.0 (omega arith), f.0 (omega arith)))
    (λ o p. omega (arith, a.1 (omega arith), b.0 (omega arith), e.0 (omega arith), f.0 (omega arith)))
    (λ o p. omega (arith, a.1 (omega arith), b.1 (omega arith), e.0 (omega arith), f.0 (omega arith)))
    (λ o p. omega (arith, a.1 (omega arith), b.1 (omega arith), e.1 (omega arith), f.0 (omega arith)))
    (λ o. omega (arith, a.1 (omega arith), b.1 (omega arith), e.1 (omega arith), f.1 (omega arith)))
