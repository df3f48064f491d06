-- `sums_in` meets its contract: the sums are those behind the first three numbers. Assumes nothing.
use Prim.Native.Nat.{ℕ, ◌+◌}
use mathlib.Core.Path.{◌≡◌, ap, ◌∙◌}
use native.Mathlib.Omega.{arith}
use lib.IntN.{pos}
use lib.ListN.{get_or, take, drop, length-drop}
use lib.Seq.{get_or-take, length-take-le}
use Rattle.std.specs.Array.{IsWholeChunk}
use Rattle.std.proofs.lemmas.List.{get_or-drop}
use Rattle.basics.proofs.Tables.{list-table}
use Rattle.c_abi.specs.StudyCalls.{sums_in}
use Rattle.c_abi.proofs.study_calls.sums_in.Goals as goal

pub returns : goal.returns
unfolding sums_in
returns c =
    let list = c.args.list.now in
    let whole : IsWholeChunk (take 80 (drop 3 list)) c.unwrap.result 80 = rw c.unwrap.ensures at c.try_from.ensures.1 in
    whole.same
    ∙ list-table 80 (λ k. get_or list (k + 3) (pos 0)) (pos 0) (take 80 (drop 3 list)) (length-take-le 80 (drop 3 list) (omega (arith, length-drop 3 list, c.requires)))
    (λ k h. get_or-take 80 (drop 3 list) k (pos 0) h ∙ get_or-drop 3 list k (pos 0) ∙ (let e : 3 + k ≡ k + 3 = omega arith in ap (λ (j : ℕ). get_or list j (pos 0)) e))
