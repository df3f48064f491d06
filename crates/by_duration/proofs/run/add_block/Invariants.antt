use Rattle.std.proofs.Common.{◌≡◌, ◌-◌, ◌*◌, length}
use Rattle.claim_file.specs.Files.{claims_of_block}
use Rattle.by_duration.specs.design.Private.{Fit, raised_by, checked_sum}
use Rattle.by_duration.proofs.run.add_block.Given as goal

abbrev pub invariant-loop-place : goal.invariant-loop-place
invariant-loop-place l =
    (length l.rows ≡ 8 * l.n) × Fit l.rows
    × (raised_by l.initial.rows (checked_sum l.kind l.n l.window.window l.table (claims_of_block l.block 0 l.count))
    ≡ raised_by l.rows (checked_sum l.kind l.n l.window.window l.table (claims_of_block l.block l.place (l.count - l.place))))
