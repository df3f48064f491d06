use mathlib.Core.Path.{◌≡◌}
use mathlib.Core.Bool.{true}
use mathlib.Core.List.{◌++◌}
use lib.ListN.{drop, replicate}
use Rattle.claim_file.specs.BlockAnswers.{no_claim}
use Rattle.c_abi.specs.RecordCalls.{all_records, records_read}
use Rattle.c_abi.proofs.block.records_read.Given as goal

abbrev pub invariant-loop-place : goal.invariant-loop-place
invariant-loop-place l =
    (all_records l.bytes l.place ≡ true) × (l.claim-items ++ drop l.count (replicate 15 no_claim) ≡ records_read l.bytes l.place)
