-- `write_claims` is safe and ends, and each block that it writes is the file's. Assumes nothing.
use Prim.Native.Nat.{◌*◌, ◌<◌}
use native.Mathlib.Omega.{arith}
use Rattle.ltd_load.proofs.FileLoop.{none_written, is-due, is_block, one_more}
use Rattle.ltd_load.proofs.output.write_claims.Goals as goal

pub loop-written-init : goal.loop-written-init
loop-written-init g c = none_written c.args.asked

pub invariant_of-due : goal.invariant_of-due
invariant_of-due g c =
    let l = c.loop-written in
    let more : 15 * l.written < c.args.asked.size = omega (arith, c.div_ceil-written-end.ensures) in
    record { due = is-due c.args.asked c.requires l.x l.written l.invariant more }

pub write_block-requires : goal.write_block-requires
write_block-requires g c =
    let l = c.loop-written in
    let more : 15 * l.written < c.args.asked.size = omega (arith, c.div_ceil-written-end.ensures) in
    is_block c.args.asked c.requires l.x l.written l.invariant more _ c.put_block-x.ensures.bytes_after

pub loop-written-preserved : goal.loop-written-preserved
loop-written-preserved g c =
    let l = c.loop-written in
    let more : 15 * l.written < c.args.asked.size = omega (arith, c.div_ceil-written-end.ensures) in
    one_more c.args.asked c.requires l.x l.written l.invariant more _ c.put_block-x.ensures.value
