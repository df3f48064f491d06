use Prim.Native.Nat.{◌-◌, ◌≤◌}
use mathlib.Core.Path.{◌≡◌}
use Rattle.rates.specs.Rates.{rates_sound_to}
use Rattle.rates.proofs.sound.Given as goal

abbrev pub invariant-loop-i : goal.invariant-loop-i
invariant-loop-i l = (l.i ≤ 479) × (l.all ≡ rates_sound_to l.part 0 l.i)

abbrev pub decreases-loop-i : goal.decreases-loop-i
decreases-loop-i l = 479 - l.i
