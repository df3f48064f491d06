use Prim.Native.Nat.{◌-◌, ◌*◌, ◌≤◌, ◌<◌}
use Rattle.valuation.proofs.factor.root.Given as goal

abbrev pub invariant-loop-low : goal.invariant-loop-low
invariant-loop-low l = (l.low < l.high) × (l.high ≤ l.above) × (l.low * l.low * l.unit ≤ l.bound) × (l.bound < l.high * l.high * l.unit)

abbrev pub decreases-loop-low : goal.decreases-loop-low
decreases-loop-low l = l.high - l.low
