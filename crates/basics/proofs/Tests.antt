-- Laws of tests: a test taken apart, both parts of an `&&`, and a test that is computed at every number below a bound. They hold for any test.
-- Assumes nothing.
use Prim.Native.Nat.{ℕ, zero, suc, ◌<◌}
use mathlib.Core.Path.{◌≡◌, refl, ap, ◌∙◌}
use mathlib.Core.Bool.{Bool, true, false, ◌&&◌}
use native.Mathlib.Omega.{arith}
use native.Mathlib.Nat.{le_of_suc-le-suc, not-suc-le-zero, eq-or-lt_of_le}
use mathlib.Core.Logic.{◌⊎◌, inl, inr, ⊎_elim}
use Rattle.basics.specs.Pick.{pick}
use borrow.Author.Tests.{ltb-true, ltb-false, leb-true, leb-false, eqb-true, eqb-false}

-- the facts of tests, for `omega`'s list
pub ruleset tests = (arith, ltb-true, ltb-false, leb-true, leb-false, eqb-true, eqb-false)

pub by {ℓ} : (t : Bool) (P : Bool → Type ℓ) → (t ≡ true → P true) → (t ≡ false → P false) → P t
by true P f g = f refl
by false P f g = g refl

pub and_left : (a b : Bool) → (a && b) ≡ true → a ≡ true
and_left true b e = refl
and_left false b e = e

pub and_right : (a b : Bool) → (a && b) ≡ true → b ≡ true
and_right true b e = e
and_right false true e = refl
and_right false false e = e

pub and-false-cases : (a b : Bool) → (a && b) ≡ false → (a ≡ false) ⊎ (b ≡ false)
and-false-cases true b e = inr e
and-false-cases false b e = inl refl

-- a value picked by a test is y where each of the two is y as the test comes out
pub pick_is : {A : Type 0} {a b y : A} (t : Bool) → (t ≡ true → a ≡ y) → (t ≡ false → b ≡ y) → pick t a b ≡ y
pick_is true f g = f refl
pick_is false f g = g refl

pub is-pick : {A : Type 0} {a b y : A} (t : Bool) → (t ≡ true → y ≡ a) → (t ≡ false → y ≡ b) → y ≡ pick t a b
is-pick true f g = f refl
is-pick false f g = g refl

-- the test holds at every number below n
abbrev pub all_below : (ℕ → Bool) → ℕ → Bool
all_below f zero = true
all_below f (suc n) = f n && all_below f n

pub all-at : (f : ℕ → Bool) (n : ℕ) → all_below f n ≡ true → (k : ℕ) → k < n → f k ≡ true
all-at f zero e k h = absurd (not-suc-le-zero h)
all-at f (suc n) e k h =
    ⊎_elim
    (λ (q : k ≡ n). ap f q ∙ and_left (f n) (all_below f n) e)
    (λ (l : k < n). all-at f n (and_right (f n) (all_below f n) e) k l)
    (eq-or-lt_of_le (le_of_suc-le-suc h))
