use Rattle.ltd_load.proofs.BlockClaims.{Filled}
use Rattle.ltd_load.proofs.output.DueClaim.block.Given as goal

abbrev pub invariant-loop-place : goal.invariant-loop-place
invariant-loop-place l = Filled l.self.x l.self.number l.claim-items l.reached l.place
