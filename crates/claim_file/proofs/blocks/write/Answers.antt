-- `write` meets its contract. Assumes nothing.
use Prim.Native.Nat.{◌≤◌}
use native.Mathlib.Omega.{arith}
use Rattle.std.proofs.lemmas.Grind.{common_steps}
use Rattle.std.proofs.lemmas.Bool.Decides.{nat_tests}
use Rattle.claim_file.proofs.WrittenBlocks.{written-so, write_done}
use Rattle.claim_file.proofs.blocks.write.Goals as goal

pub returns : goal.returns
returns c =
    let s = c.args in
    let low : 1 ≤ s.number = grind (arith, common_steps, nat_tests, c.contains.ensures.cases, c.if-not-contains.false, c.new.ensures.start) in
    let high : s.number ≤ 65535 = grind (arith, common_steps, nat_tests, c.contains.ensures.cases, c.if-not-contains.false, c.new.ensures.end) in
    let rest = write_done s.number s.block s.bytes.now _ (written-so s.number s.block s.bytes.now low high (omega arith) c.in-Some.ensures.cases.long) c.put_block.ensures in
    record { value = rest.0; bytes_after = rest.1 }
