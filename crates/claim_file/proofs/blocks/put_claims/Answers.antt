-- `put_claims` meets its contract. The loop's invariant: the claims stored so far, in one run. Assumes nothing.
use native.Mathlib.Omega.{arith}
use mathlib.Core.Path.{refl}
use lib.ListN.{take}
use Rattle.claim_file.proofs.ByteStores.{none-stored, one-stored}
use Rattle.claim_file.proofs.blocks.put_claims.Goals as goal

pub loop-place-init : goal.loop-place-init
loop-place-init c = (none-stored c.args.bytes.now 16 c.args.block.claims, omega arith)

pub loop-place-preserved : goal.loop-place-preserved
loop-place-preserved c =
    let l = c.loop-place in
    let cs = take c.args.block.count c.args.block.claims in
    (one-stored c.args.bytes.now 16 cs l.bytes _ l.place _ _ (omega arith) refl l.invariant.0 c.put_claim.ensures, omega arith)
