-- `put_records` meets its contract. The loop's invariant: the records stored so far, in one run. Assumes nothing.
use native.Mathlib.Omega.{arith}
use mathlib.Core.Path.{◌≡◌}
use lib.ListN.{length, take}
use lib.Seq.{length-take-le}
use Rattle.claim_file.proofs.ByteStores.{none-stored, one_written}
use Rattle.c_abi.proofs.block.put_records.Goals as goal

pub loop-place-init : goal.loop-place-init
loop-place-init c = let s = c.args in (none-stored s.claims.now 0 s.block.claims, c.requires.in_bounds)

pub loop-place-preserved : goal.loop-place-preserved
loop-place-preserved c =
    let l = c.loop-place in
    let block = c.args.block in
    let long : length (take block.count block.claims) ≡ block.count = length-take-le block.count block.claims (omega arith) in (
      one_written c.args.claims.now 0 (take block.count block.claims) l.claims _ l.place _ _ (omega arith) (omega arith) (omega (arith, long)) l.invariant.0 c.write_record.ensures.bytes_after,
      omega arith,
    )
