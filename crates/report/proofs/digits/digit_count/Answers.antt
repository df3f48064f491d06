use Prim.Native.Nat.{ℕ, zero, suc, ◌+◌, ◌-◌, ◌*◌, ◌^◌, ◌≤◌, ◌<◌, max}
use mathlib.Core.Path.{◌≡◌, ap}
use native.Mathlib.Omega.{arith}
use native.Mathlib.Numerals.{add-one}
use native.Mathlib.Nat.{pow-succ', one-le-pow}
use Rattle.report.specs.Digits.{IsDigitCount}
use Rattle.report.proofs.digits.digit_count.Goals as goal

-- no zeros in front
least : (n k : ℕ) → 10 ^ k ≤ max n 1 → 1 < k + 1 → 10 ^ (k + 1 - 1) ≤ n
least n zero low h = absurd (omega arith)
least n (suc j) low h =
    let e : suc j + 1 - 1 ≡ suc j = omega arith in
    let f : 10 ^ (suc j + 1 - 1) ≡ 10 ^ suc j = ap (λ (i : ℕ). 10 ^ i) e in
    let p = pow-succ' 10 j in
    let q = one-le-pow j 10 (omega arith) in
    omega arith

digits : (n k : ℕ) → 10 ^ k ≤ max n 1 → max n 1 < 10 * 10 ^ k → IsDigitCount 10 1 n (k + 1)
digits n k low high =
    let f : 10 ^ (k + 1) ≡ 10 ^ suc k = ap (λ (i : ℕ). 10 ^ i) (add-one k) in
    let p = pow-succ' 10 k in
    (omega arith, omega arith, least n k low)

pub returns : goal.returns
returns c =
    let n = c.args.n in
    let e = c.ilog10.ensures in
    digits n c.ilog10.result (omega (arith, e.power_le, c.max.ensures)) (omega (arith, e.next_power_gt, c.max.ensures))
