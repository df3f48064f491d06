use Prim.Native.Nat.{ℕ, ◌+◌, ◌-◌, ◌≤◌, ◌<◌}
use mathlib.Core.Path.{◌≡◌}
use lib.ListN.{length, get_or}
use Rattle.claim_file.proofs.check_sum.plus_row.Given as goal

abbrev pub invariant-loop-column : goal.invariant-loop-column
invariant-loop-column l =
    (l.column ≤ 16) × (length l.row ≡ 16) × ((i : ℕ) → i < l.column → get_or l.row i 0 ≡ get_or l.a i 0 + get_or l.b i 0)

abbrev pub decreases-loop-column : goal.decreases-loop-column
decreases-loop-column l = 16 - l.column
