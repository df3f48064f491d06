use Prim.Native.Nat.{◌+◌, ◌-◌}
use mathlib.Core.Path.{◌≡◌}
use mathlib.Core.Bool.{◌&&◌}
use lib.Dec.{eqb}
use Rattle.claim_file.specs.Bytes.{zero_from}
use Rattle.claim_file.proofs.bytes.all_zero.Given as goal

abbrev pub invariant-loop-byte : goal.invariant-loop-byte
invariant-loop-byte l =
    zero_from l.bytes l.from l.count ≡ (eqb l.all 0 && zero_from l.bytes (l.from + l.byte-index) (l.count - l.byte-index))
