use mathlib.Core.Path.{◌≡◌}
use lib.ListN.{length, take}
use lib.Seq.{sets}
use Rattle.claim_file.specs.Record.{all_claim_bytes}
use Rattle.claim_file.proofs.blocks.put_claims.Given as goal

abbrev pub invariant-loop-place : goal.invariant-loop-place
invariant-loop-place l =
    (l.bytes ≡ sets l.initial.bytes 16 (all_claim_bytes (take l.place l.claim-items))) × (length l.bytes ≡ 512)
