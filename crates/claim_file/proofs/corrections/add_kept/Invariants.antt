use Prim.Native.Nat.{◌-◌, ◌/◌, ◌≤◌}
use mathlib.Core.Path.{◌≡◌}
use mathlib.Core.Bool.{true}
use lib.ListN.{length}
use Rattle.study.specs.design.PreparedAdding.{lent_study}
use Rattle.study.specs.design.LentAdding.{room_for}
use Rattle.claim_file.specs.Corrections.{file_records}
use Rattle.claim_file.specs.design.PreparedRuns.{adding_with}
use Rattle.claim_file.proofs.CorrectedRuns.{Left, go, later_records, block_left}
use Rattle.claim_file.proofs.corrections.add_kept.Given as goal

-- the block's claims that were added are as many as were taken since it began
abbrev pub invariant-loop-place : goal.invariant-loop-place
invariant-loop-place l =
    (l.place ≤ l.count) × (l.initial.taken ≤ l.taken) × (l.taken - l.initial.taken ≤ l.place)
    × (l.spare ≡ true → room_for (15 - (l.taken - l.initial.taken)) l.sums ≡ true)
    × Left (adding_with l.fn.kind l.fn.table) (file_records l.file) (go l.study) (go (lent_study l.study.window l.taken l.sums)) l.next (file_records l.file)
    (block_left l.file l.bytes l.block l.place l.count)

abbrev pub decreases-loop-place : goal.decreases-loop-place
decreases-loop-place l = l.count - l.place

abbrev pub invariant-loop-block : goal.invariant-loop-block
invariant-loop-block l =
    (l.block ≤ 65536)
    × Left (adding_with l.fn.kind l.fn.table) (file_records l.file) (go l.study) (go (lent_study l.study.window l.taken l.sums)) l.next (file_records l.file)
    (later_records l.file l.block)

abbrev pub decreases-loop-block : goal.decreases-loop-block
decreases-loop-block l = length l.file / 512 - l.block
