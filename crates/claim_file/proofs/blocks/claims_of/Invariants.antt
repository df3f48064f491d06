use mathlib.Core.List.{◌++◌}
use lib.ListN.{drop, replicate}
use Rattle.claim_file.specs.BlockAnswers.{no_claim}
use Rattle.claim_file.proofs.Reading.{Placed}
use Rattle.claim_file.proofs.blocks.claims_of.Given as goal

abbrev pub invariant-loop-place : goal.invariant-loop-place
invariant-loop-place l = Placed l.fn.bytes l.place (l.claim-items ++ drop l.fn.count (replicate 15 no_claim))
