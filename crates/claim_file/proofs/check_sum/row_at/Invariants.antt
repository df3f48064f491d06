use Prim.Native.Nat.{ℕ, ◌+◌, ◌-◌, ◌≤◌, ◌<◌}
use mathlib.Core.Path.{◌≡◌}
use mathlib.Core.Bool.{true}
use lib.ListN.{length, get_or}
use Rattle.basics.specs.Tables.{all_at_most}
use Rattle.claim_file.specs.Bytes.{byte_at}
use Rattle.claim_file.proofs.check_sum.row_at.Given as goal

abbrev pub invariant-loop-column : goal.invariant-loop-column
invariant-loop-column l =
    (l.column ≤ 16) × (length l.row ≡ 16) × (all_at_most 255 l.row ≡ true) × ((i : ℕ) → i < l.column → get_or l.row i 0 ≡ byte_at l.bytes (l.at + i))

abbrev pub decreases-loop-column : goal.decreases-loop-column
decreases-loop-column l = 16 - l.column
