-- `held_up_to` meets its contract: a number that is not negative is held up to the one past the most, as is one that is too large to be read.
-- Assumes nothing.
use Prim.Native.Nat.{ℕ, ◌+◌, ◌≤◌, min}
use mathlib.Core.Path.{◌≡◌, ap, ◌∙◌}
use native.Mathlib.Omega.{arith}
use lib.Dec.{leb}
use lib.IntN.{ℤ, pos, negsuc}
use mir.Facts.{to_z-of_z}
use Rattle.std.specs.Prelude.{Result, Ok, Err, OkIff, unsigned_abs}
use Rattle.std.specs.Result.{result_unwrap_or}
use Rattle.std.specs.Int.{FitsUnsignedBits}
use Rattle.basics.specs.Pick.{pick}
use Rattle.basics.proofs.Tests.{tests, by}
use Rattle.c_abi.specs.StudyCalls.{held_up_to}
use Rattle.c_abi.proofs.study_calls.held_up_to.Goals as goal

held : {E : Type 0} (most : ℕ) (z : ℤ) (m : Result ℕ E) → most ≤ 1000000 → OkIff m (FitsUnsignedBits 32 z) (unsigned_abs z)
    → min (result_unwrap_or m 4294967295) (most + 1) ≡ held_up_to most z
unfolding held_up_to
held most (pos n) (Ok k) h f =
    by (leb n most) (λ t. min k (most + 1) ≡ pick t n (most + 1)) (λ q. omega (tests, f.1)) (λ q. omega (tests, f.1))
held most (pos n) (Err e) h f =
    by (leb n most) (λ t. min 4294967295 (most + 1) ≡ pick t n (most + 1)) (λ q. absurd (f (omega tests))) (λ q. omega tests)
held most (negsuc n) (Ok k) h f = absurd f.0
held most (negsuc n) (Err e) h f = omega arith

pub returns : goal.returns
returns c =
    let s = c.args in
    c.min.ensures ∙ ap (λ (k : ℕ). min k (s.most + 1)) c.unwrap_or.ensures ∙ held s.most _ _ c.requires c.try_from.ensures ∙ ap (held_up_to s.most) (to_z-of_z c.ranges.x)
