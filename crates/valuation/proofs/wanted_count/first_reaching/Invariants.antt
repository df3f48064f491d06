use Prim.Native.Nat.{◌-◌, ◌≤◌, ◌<◌}
use mathlib.Core.Path.{◌≡◌}
use mathlib.Core.Bool.{true, false}
use lib.IntN.{pos}
use Rattle.valuation.specs.WantedCount.{reaches_wanted}
use Rattle.valuation.proofs.wanted_count.first_reaching.Given as goal

abbrev pub invariant-loop-low : goal.invariant-loop-low
invariant-loop-low l =
    (l.low < l.high) × (l.high ≤ 500001) × (reaches_wanted l.group (pos l.expected) l.wanted l.low ≡ false)
    × (l.high ≤ 500000 → reaches_wanted l.group (pos l.expected) l.wanted l.high ≡ true)

abbrev pub decreases-loop-low : goal.decreases-loop-low
decreases-loop-low l = l.high - l.low
