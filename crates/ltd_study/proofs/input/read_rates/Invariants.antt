use Prim.Native.Nat.{◌-◌}
use mathlib.Core.Path.{◌≡◌}
use lib.ListN.{length}
use Rattle.ltd_study.proofs.Rates.{ReadSo}
use Rattle.ltd_study.proofs.input.read_rates.Given as goal

abbrev pub invariant-loop-filled : goal.invariant-loop-filled
invariant-loop-filled g l = record { read : ReadSo (g.F.Source.left l.initial.file) (g.F.Source.left l.file) l.rates l.table; room : length l.table ≡ 15329 }

abbrev pub decreases-loop-filled : goal.decreases-loop-filled
decreases-loop-filled g l = 15328 - l.rates
