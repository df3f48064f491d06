-- `put_block` meets its contract: head, claims, zeros and check, one run after another. Assumes nothing.
use native.Mathlib.Omega.{arith}
use mathlib.Core.Path.{◌≡◌}
use lib.ListN.{length, take}
use lib.Seq.{length-take-le}
use Rattle.claim_file.proofs.WrittenBlocks.{block_written}
use Rattle.claim_file.proofs.blocks.put_block.Goals as goal

pub returns : goal.returns
returns c =
    let b = c.args.block in
    let fifteen : length b.claims ≡ 15 = c.well_formed.1.0.1.1.1.0.1.0.1 in
    block_written c.args.bytes.now _ _ _ _ c.args.number b.count (take b.count b.claims) (omega arith)
    (length-take-le b.count b.claims (omega arith)) c.requires.count_bound
    c.put_head.ensures c.put_claims.ensures c.put_zeros.ensures c.put_check.ensures
