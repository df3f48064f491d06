use Prim.Native.Nat.{◌+◌, ◌-◌, ◌/◌, ◌≤◌}
use mathlib.Core.Path.{◌≡◌}
use lib.ListN.{length}
use Rattle.claim_file.specs.Corrections.{sound_blocks}
use Rattle.claim_file.proofs.CorrectedRuns.{sound_from}
use Rattle.claim_file.proofs.corrections.sound_blocks.Given as goal

abbrev pub invariant-loop-due : goal.invariant-loop-due
invariant-loop-due l =
    (l.due ≤ length l.file / 512) × (l.due ≤ 65536) × (sound_blocks 0 l.file (length l.file / 512) ≡ l.due + sound_from l.file (length l.file / 512) l.due)

abbrev pub decreases-loop-due : goal.decreases-loop-due
decreases-loop-due l = length l.file / 512 - l.due
