-- An answer that a test picked: which of two it is tells how the test came out.
-- Assumes nothing.
use mathlib.Core.Path.{◌≡◌, refl}
use mathlib.Core.Bool.{Bool, true, false}
use Rattle.basics.specs.Pick.{pick}

pub picked : {A : Type 0} {x a b : A} (t : Bool) → x ≡ pick t a b → (x ≡ b → ⊥) → (t ≡ true) × (x ≡ a)
picked true e n = (refl, e)
picked false e n = absurd (n e)

pub unpicked : {A : Type 0} {x a b : A} (t : Bool) → x ≡ pick t a b → (x ≡ a → ⊥) → (t ≡ false) × (x ≡ b)
unpicked true e n = absurd (n e)
unpicked false e n = (refl, e)
