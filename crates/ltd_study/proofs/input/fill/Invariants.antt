use Prim.Native.Nat.{◌-◌, ◌≤◌}
use lib.ListN.{length, take}
use mathlib.Core.Path.{◌≡◌}
use Rattle.ltd_study.specs.Sources.{Hands}
use Rattle.ltd_study.proofs.input.fill.Given as goal

abbrev pub invariant-loop-done : goal.invariant-loop-done
invariant-loop-done g l =
    record { within : l.done ≤ 2048; long : length l.buffer ≡ 2048; handed : Hands (g.S.Source.left l.initial.source) (take l.done l.buffer) (g.S.Source.left l.source) }

abbrev pub decreases-loop-done : goal.decreases-loop-done
decreases-loop-done g l = 2048 - l.done
