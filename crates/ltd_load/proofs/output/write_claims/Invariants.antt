use Rattle.ltd_load.proofs.FileLoop.{Come}
use Rattle.ltd_load.proofs.output.write_claims.Given as goal

abbrev pub invariant-loop-written : goal.invariant-loop-written
invariant-loop-written g l = Come l.asked l.x l.written
