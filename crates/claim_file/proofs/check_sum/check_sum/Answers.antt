-- `check_sum` meets its contract: both halves are the sum of 512 bytes. Assumes nothing.
use Prim.Native.Nat.{ℕ, ◌+◌, ◌*◌, ◌≤◌, ◌<◌}
use mathlib.Core.Path.{◌≡◌}
use native.Mathlib.Omega.{arith}
use lib.ListN.{get_or}
use mir.Syntax.{w8}
use mir.Val.{Fits}
use borrow.Author.Rules.{rules}
use Rattle.claim_file.specs.Bytes.{byte_at}
use Rattle.claim_file.specs.Block.{check_sum}
use Rattle.claim_file.proofs.CheckColumns.{check-sum-low, both_halves}
use Rattle.claim_file.proofs.check_sum.check_sum.Goals as goal
use Rattle.claim_file.proofs.check_sum.check_sum.Goals.{After-half_sum-2}

-- the halves have the sum and the last two bytes, each times its place
halves : (c : After-half_sum-2)
    → c.half_sum.result + c.half_sum-2.result
    ≡ check_sum c.args.bytes.now 510 + (511 * get_or c.args.bytes.now 510 0 + 512 * get_or c.args.bytes.now 511 0)
unfolding byte_at
halves c = both_halves c.args.bytes.now _ _ c.half_sum.ensures c.half_sum-2.ensures

pub overflow_add-result : goal.overflow_add-result
unfolding byte_at
overflow_add-result c =
    let byte : (k : ℕ) → get_or c.args.bytes.now k 0 < 256 = λ k. let fits : Fits w8 (get_or c.args.bytes.now k 0) = search rules in omega (arith, fits) in
    let low : check_sum c.args.bytes.now 510 ≤ 130560 * 510 = check-sum-low c.args.bytes.now byte 510 (omega arith) in
    omega (arith, halves (goal.at.overflow_add-result c).After-half_sum-2, low, byte 510, byte 511)

pub overflow_sub-result : goal.overflow_sub-result
overflow_sub-result c = omega (arith, halves (goal.at.overflow_sub-result c).After-half_sum-2)

pub returns : goal.returns
returns c = omega (arith, halves (goal.at.returns c).After-half_sum-2)
