-- `ltd_load_claim` meets its contract: a list of 32 bytes has room for the record. Assumes nothing.
use Prim.Native.Nat.{ℕ, ◌≤◌}
use mathlib.Core.Path.{◌≡◌, ap, ◌∙◌}
use mathlib.Core.Bool.{Bool}
use mathlib.Core.List.{List}
use native.Mathlib.Omega.{arith}
use borrow.Author.Tests.{le-leb}
use lib.ListN.{length}
use lib.Seq.{sets}
use Rattle.basics.specs.Pick.{pick}
use Rattle.claim_file.specs.Record.{claim_bytes}
use Rattle.claim_file.specs.BlockAnswers as blocks
use Rattle.load.specs.declared.LoadedClaim.{LoadedClaim}
use Rattle.c_abi.specs.LoadCalls.{record_stored}
use Rattle.c_abi.proofs.loads.ltd_load_claim.Goals as goal

written : (claim new : List ℕ) (step : LoadedClaim) → 32 ≤ length claim → new ≡ blocks.record_after step.claim 0 claim → new ≡ sets claim 0 (claim_bytes step.claim)
unfolding blocks.record_after
written claim new step h q = q ∙ ap (λ (t : Bool). pick t (sets claim 0 (claim_bytes step.claim)) claim) (le-leb 32 (length claim) h)

pub returns-in-Ok-clause-claim_after : goal.returns-in-Ok-clause-claim_after
returns-in-Ok-clause-claim_after c =
    let s = c.args in
    written s.claim.now _ c.in-Ok.step (omega arith) c.write_record.ensures.bytes_after
    ∙ rw (le-leb 1 (length s.x_out.now) (omega arith), le-leb 32 (length s.claim.now) (omega arith)) (ap (record_stored s.claim.now) c.in-Ok.ensures)
