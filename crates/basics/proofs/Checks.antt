-- Laws of checks: which of them passed, and which one answers.
-- Assumes nothing.
use Prim.Native.Nat.{ℕ, ◌<◌}
use mathlib.Core.Path.{◌≡◌, refl}
use mathlib.Core.Bool.{Bool, true, false}
use lib.Dec.{eqb}
use borrow.Author.Tests.{eqb-true, eq-eqb, ne_eqb}
use Rattle.basics.specs.Pick.{pick}
use Rattle.basics.specs.Checks.{check, ◌then◌}
use Rattle.basics.proofs.Tests.{tests, by}

-- one check and then another
pub then_is : (a b : ℕ) → (a then b) ≡ pick (eqb a 0) b a
unfolding ◌then◌
then_is a b = refl

-- a check that gives 0 passed
pub check-passed : (t : Bool) (n : ℕ) → 0 < n → check t n ≡ 0 → t ≡ true
check-passed true n h e = refl
check-passed false n h e = absurd (omega tests)

-- where checks one after the other give 0, each of them does
pub then-passed : (a b : ℕ) → (a then b) ≡ 0 → (a ≡ 0) × (b ≡ 0)
unfolding ◌then◌
then-passed a b h = by (eqb a 0) (λ t. pick t b a ≡ 0 → (a ≡ 0) × (b ≡ 0)) (λ q e. (eqb-true a 0 q, e)) (λ q e. absurd (omega tests)) h

-- after a check that passed the next one answers; one that failed answers itself
pub then_next : (a b : ℕ) → a ≡ 0 → (a then b) ≡ b
unfolding ◌then◌
then_next a b h = rw (eq-eqb a 0 h)

pub then-fails : (a b : ℕ) → (a ≡ 0 → ⊥) → (a then b) ≡ a
unfolding ◌then◌
then-fails a b h = rw (ne_eqb a 0 h)

-- how checks are grouped doesn't matter
pub then-assoc : (a b c : ℕ) → ((a then b) then c) ≡ (a then (b then c))
unfolding ◌then◌
then-assoc a b c =
    by (eqb a 0) (λ t. eqb a 0 ≡ t → pick (eqb (pick t b a) 0) c (pick t b a) ≡ pick t (pick (eqb b 0) c b) a) (λ q u. refl)
    (λ q u. rw u) refl
