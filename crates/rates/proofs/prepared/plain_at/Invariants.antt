use Prim.Native.Nat.{◌+◌, ◌-◌, ◌*◌, ◌≤◌}
use mathlib.Core.Path.{◌≡◌}
use lib.IntN.{pos}
use Rattle.rates.specs.Rates.{recovery_rate, death_rate}
use Rattle.rates.specs.design.Prepared.{rates_over}
use Rattle.rates.proofs.prepared.plain_at.Given as goal

abbrev pub invariant-loop-i : goal.invariant-loop-i
invariant-loop-i l =
    (l.i ≤ l.i-end) × (l.i-end ≡ l.months) × (l.recoveries ≤ 4294967295 * l.i) × (l.deaths ≤ 4294967295 * l.i)
    × (pos l.recoveries ≡ rates_over (λ d. pos (recovery_rate l.part 0 d)) (l.first + 2) l.i) × (pos l.deaths ≡ rates_over (λ d. pos (death_rate l.part 0 d)) (l.first + 2) l.i)

abbrev pub decreases-loop-i : goal.decreases-loop-i
decreases-loop-i l = l.i-end - l.i
