-- `run::put_head` meets its contract. Assumes nothing.
use Rattle.std.proofs.Common.{pos, ap, ◌∙◌, w64, to_z-of_z, slice_set}
use Rattle.by_duration.specs.DurationRuns.{head_numbers}
use Rattle.by_duration.proofs.run.put_head.Goals as goal

pub returns : goal.returns
unfolding head_numbers
returns c =
    let e = c.from-end.ensures in
    let number = to_z-of_z {w = w64} (record { sfits = c.from.type_inv }) ∙ c.from.ensures ∙ ap pos e.0 in
    let block = to_z-of_z {w = w64} (record { sfits = c.from-2.type_inv }) ∙ c.from-2.ensures ∙ ap pos e.1 in
    let place = to_z-of_z {w = w64} (record { sfits = c.from-3.type_inv }) ∙ c.from-3.ensures ∙ ap pos e.2 in
    let taken = to_z-of_z {w = w64} (record { sfits = c.from-4.type_inv }) ∙ c.from-4.ensures in
    λ i. slice_set (slice_set (slice_set (slice_set c.args.out.now 0 (number i)) 1 (block i)) 2 (place i)) 3 (taken i)
