-- What a buffer that was filled says.
-- Assumes nothing.
use Prim.Native.Nat.{ℕ}
use mathlib.Core.Path.{◌≡◌, refl, ap}
use mathlib.Core.Bool.{Bool, true, false}
use native.Mathlib.Omega.{arith}
use Rattle.basics.specs.Pick.{pick}
use Rattle.basics.proofs.Tests.{by}
use Rattle.ltd_study.specs.declared.input.Filled.{Filled}
use Rattle.ltd_study.specs.Input.{fed_count}
use Rattle.ltd_study.specs.design.Private.{Filling}

-- no Boolean is both
pub both : {A : Type 0} → true ≡ false → A
both q = absurd (let z : ◌≡◌ {A = ℕ} 0 1 = ap (λ (b : Bool). pick b 0 1) q in omega arith)

-- a buffer that is full, as the input isn't over: reading didn't fail, and it is fed whole
pub full-whole : (f : Filled) → Filling 2048 f → f.over ≡ false → (f.count ≡ 2048) × (f.failed ≡ false)
full-whole f g e = (g.full e, by f.failed (λ t. t ≡ false) (λ t. absurd (omega (arith, g.full e, g.short t))) (λ _. refl))

pub fed-full : (f : Filled) → Filling 2048 f → f.over ≡ false → fed_count f.failed f.count ≡ 2048
unfolding fed_count
fed-full f g e = let w = full-whole f g e in rw w.1 w.0
