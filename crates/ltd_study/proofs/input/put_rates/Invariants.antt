use Prim.Native.Nat.{ℕ, ◌*◌, ◌<◌}
use mathlib.Core.Path.{◌≡◌}
use lib.ListN.{get_or}
use Rattle.claim_file.specs.Bytes.{four_at}
use Rattle.ltd_study.proofs.input.put_rates.Given as goal

abbrev pub invariant-loop-i : goal.invariant-loop-i
invariant-loop-i l = (k : ℕ) → k < l.i → get_or l.rate-items k 0 ≡ four_at l.bytes (4 * k)
