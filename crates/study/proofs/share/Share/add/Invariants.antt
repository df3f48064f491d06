use Prim.Native.Nat.{◌+◌, ◌-◌, ◌≤◌}
use mathlib.Core.Path.{◌≡◌}
use Rattle.study.proofs.NextBand.{NextBand}
use Rattle.study.proofs.share.Share.add.Given as goal

abbrev pub invariant-loop-end : goal.invariant-loop-end
invariant-loop-end l =
    NextBand l.kind l.part l.self.span l.self.weight l.from.0 l.initial.sums l.before l.band l.end.0 l.sums
    × (l.last.0 + 1 ≡ l.self.span.first.0 + l.self.span.months) × (2 ≤ l.from.0) × (l.from.0 ≤ l.self.span.first.0)

abbrev pub decreases-loop-end : goal.decreases-loop-end
decreases-loop-end l = l.last.0 - l.end.0
