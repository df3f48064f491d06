use mathlib.Core.Path.{◌≡◌}
use Prim.Native.Nat.{◌≤◌}
use lib.ListN.{length, take}
use lib.Seq.{sets}
use Rattle.claim_file.specs.Record.{all_claim_bytes}
use Rattle.c_abi.proofs.block.put_records.Given as goal

abbrev pub invariant-loop-place : goal.invariant-loop-place
invariant-loop-place l =
    (l.claims ≡ sets l.initial.claims 0 (all_claim_bytes (take l.place l.claim-items))) × (480 ≤ length l.claims)
