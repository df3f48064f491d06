-- Sums modulo 2⁶⁴: what wraps wraps once.
-- Assumes nothing.
use Rattle.std.proofs.Common.{◌≡◌, ℕ, suc, ◌+◌, ◌-◌, ◌%◌, ◌<◌, cond, ltb, ℤ, pos, negsuc, ◌+ℤ◌, sym, ap, ap₂, ◌∙◌, arith, to_z-of_z, w64, Fits, SFits, to_z, of_z}
use lib.IntN.{sub_ℕ}
use mir.Facts.{of_z-to_z, sfits_to_z}
use Rattle.basics.proofs.Tests.{tests, by}
use Rattle.basics.proofs.Signed.{Small, small-fits}
use Rattle.by_duration.specs.Wrapped.{residue, as64}

pub residue-high : (x : ℤ) → residue x < 18446744073709551616
unfolding residue
residue-high (pos n) = omega arith
residue-high (negsuc n) = omega arith

-- the residue of a difference of naturals
residue-sub : (a b : ℕ) → residue (sub_ℕ a (suc b)) ≡ (a % 18446744073709551616 + (18446744073709551615 - b % 18446744073709551616)) % 18446744073709551616
unfolding residue
residue-sub a b =
    by (ltb a (suc b))
    (λ t. residue (cond t (negsuc (suc b - suc a)) (pos (a - suc b))) ≡ (a % 18446744073709551616 + (18446744073709551615 - b % 18446744073709551616)) % 18446744073709551616)
    (λ q. omega tests) (λ q. omega tests)

pub residue-sum : (x y : ℤ) → residue (x +ℤ y) ≡ (residue x + residue y) % 18446744073709551616
unfolding residue
residue-sum (pos a) (pos b) = omega arith
residue-sum (pos a) (negsuc b) = residue-sub a b
residue-sum (negsuc a) (pos b) = residue-sub b a ∙ omega arith
residue-sum (negsuc a) (negsuc b) = omega arith

-- a number of 64 bits has its bits as its residue
residue-bits : (x : ℤ) → SFits w64 x → residue x ≡ of_z w64 x
unfolding residue
residue-bits (pos n) h = let l = h.sfits in omega arith
residue-bits (negsuc n) h = let l = h.sfits in omega arith

pub as64-fits : (x : ℤ) → SFits w64 x → as64 x ≡ x
unfolding as64
as64-fits x h = ap (to_z w64) (residue-bits x h) ∙ to_z-of_z h

residue-as64 : (x : ℤ) → residue (as64 x) ≡ residue x
unfolding as64
residue-as64 x = let f : Fits w64 (residue x) = record { fits = residue-high x } in residue-bits (to_z w64 (residue x)) (sfits_to_z f) ∙ of_z-to_z f

-- a sum that wrapped, and more: it wraps once
pub as64-sum : (x y : ℤ) → as64 (as64 x +ℤ y) ≡ as64 (x +ℤ y)
unfolding as64
as64-sum x y =
    ap (to_z w64)
    (residue-sum (as64 x) y ∙ ap (λ (k : ℕ). (k + residue y) % 18446744073709551616) (residue-as64 x) ∙ sym (residue-sum x y))

pub as64-small : (x : ℤ) → Small x → as64 x ≡ x
as64-small x h = as64-fits x (small-fits x h)

-- the sum of the bits of two numbers of 64 bits
pub wrapped : (x y : ℤ) → SFits w64 x → SFits w64 y → to_z w64 ((of_z w64 x + of_z w64 y) % 18446744073709551616) ≡ as64 (x +ℤ y)
unfolding as64
wrapped x y f g =
    ap (to_z w64)
    (ap₂ (λ (a b : ℕ). (a + b) % 18446744073709551616) (sym (residue-bits x f)) (sym (residue-bits y g)) ∙ sym (residue-sum x y))
