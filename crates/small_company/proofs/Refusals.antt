-- What `?` answers with a refusal.
-- Assumes nothing.
use Prim.Native.Nat.{ℕ}
use mathlib.Core.Path.{◌≡◌, refl}
use Rattle.basics.specs.declared.refusal.Refusal.{Refusal}
pub use Rattle.basics.proofs.Refused.{not-zero, passed_on}
use Rattle.basics.proofs.Tests.{tests}
use Rattle.std.specs.Prelude.{Option, Some, None, Result, Err, IsErr, IsErrAnd, ok_or}

-- the refusal given where there was no value
pub from-none : {A B : Type 0} (m : Option A) (d e : Refusal) (r : Result B Refusal) → Err e ≡ ok_or m d → IsErr r × IsErrAnd r (λ x. x ≡ e)
    → (m ≡ None) × (r ≡ Err d)
from-none None d e r v h = (refl, let p = passed_on r e h in cc)
from-none (Some x) d e r v h = let z : ◌≡◌ {A = ℕ} 0 1 = cc in absurd (omega tests)
