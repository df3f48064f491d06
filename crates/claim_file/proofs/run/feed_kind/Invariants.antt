use Prim.Native.Nat.{◌-◌, ◌≤◌}
use mathlib.Core.Path.{◌≡◌}
use mathlib.Core.Bool.{true}
use Rattle.std.specs.Prelude.{IsNone}
use lib.ListN.{length, drop}
use Rattle.study.specs.design.PreparedAdding.{lent_study}
use Rattle.study.specs.design.LentAdding.{room_for}
use Rattle.claim_file.specs.Run.{claims_from, fed}
use Rattle.claim_file.specs.design.PreparedRuns.{adding_with}
use Rattle.claim_file.specs.design.LentRuns.{with_sums}
use Rattle.claim_file.proofs.run.feed_kind.Given as goal

abbrev pub invariant-loop-place : goal.invariant-loop-place
invariant-loop-place l =
    (l.run ≡ l.initial.run) × (l.place ≤ l.count) × (l.spare ≡ true → room_for (15 - l.place) l.sums ≡ true)
    × (claims_from (with_sums l.initial.run l.initial.sums) (lent_study l.window.window l.initial.taken l.initial.sums) (adding_with l.fn.kind l.fn.table) l.part 0 l.count
    ≡ claims_from (with_sums l.initial.run l.initial.sums) (lent_study l.window.window l.taken l.sums) (adding_with l.fn.kind l.fn.table) l.part l.place (l.count - l.place))

abbrev pub decreases-loop-place : goal.decreases-loop-place
decreases-loop-place l = l.count - l.place

abbrev pub invariant-file : goal.invariant-file
invariant-file l =
    (l.at ≤ length l.bytes) × IsNone l.run.stop
    × (fed (with_sums l.initial.run l.initial.sums) (adding_with l.fn.kind l.fn.table) l.bytes ≡ fed (with_sums l.run l.sums) (adding_with l.fn.kind l.fn.table) (drop l.at l.bytes))

abbrev pub decreases-file : goal.decreases-file
decreases-file l = length l.bytes - l.at
