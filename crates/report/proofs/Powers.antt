-- Powers of a base, for the digits that hold a number. Assumes nothing.
use Prim.Native.Nat.{ℕ, ◌-◌, ◌^◌, ◌≤◌, ◌<◌}
use native.Mathlib.Nat.{le_of_suc-le-suc, pow-le-pow_right, lt_of_not-le}
use native.Mathlib.Omega.{arith}
use mathlib.Core.Path.{sym}
use Rattle.report.specs.Digits.{IsDigitCount}
use Rattle.report.specs.Counts.{IsPrefixLen}
use mathlib.Core.List.{List}
use lib.ListN.{length}
use lib.Seq.{length-take-le}

digit_count_not_above : (b width n k most : ℕ) → 0 < b → IsDigitCount b width n k → width ≤ most → n < b ^ most → most < k → ⊥
digit_count_not_above b width n k most h fewest within holds over =
    let p : b ^ (k - 1) ≤ n = fewest.2 (omega arith) in
    let q : b ^ most ≤ b ^ (k - 1) = pow-le-pow_right h (omega arith) in
    omega arith

-- where `most` digits hold n, the fewest are no more
pub digit_count_le : (b width n k most : ℕ) → 0 < b → IsDigitCount b width n k → width ≤ most → n < b ^ most → k ≤ most
digit_count_le b width n k most h fewest within holds = le_of_suc-le-suc (lt_of_not-le (digit_count_not_above b width n k most h fewest within holds))

pub prefix_len_of_le : (n : ℕ) (xs : List ℕ) → n ≤ length xs → IsPrefixLen n xs
prefix_len_of_le n xs h = (h, sym (length-take-le n xs h))
