-- Laws of sums and differences of integers that the sums over month records rest on.
-- Assumes nothing.
use Prim.Native.Nat.{ℕ, zero, suc, zero-le, ◌+◌, ◌-◌, ◌*◌, ◌≤◌}
use mathlib.Core.Path.{◌≡◌, refl, sym, ap, ap₂, ◌∙◌}
use mathlib.Core.Bool.{Bool, true, false, cond}
use native.Mathlib.Omega.{arith}
use lib.IntN.{ℤ, pos, negsuc, nat_abs, neg_ℤ, pred_ℤ, sub_ℕ, ◌+ℤ◌, ◌-ℤ◌, ◌*ℤ◌, +ℤ_idl, +ℤ_assoc, +ℤ_comm, +ℤ_invr, suc_ℤ-*ℤ, pred_ℤ-*ℤ, zero-*ℤ, *ℤ-zero, *ℤ-negsuc, neg_ℤ-neg_ℤ, neg_ℤ-+ℤ, -ℤ-+ℤ_cancel, +ℤ-neg_ℤ_cancel}
use borrow.Author.Tests.{le-ltb}
use lib.Dec.{ltb}
use Rattle.basics.specs.Pick.{pick}
use Rattle.basics.proofs.Tests.{tests, by}

-- a difference of naturals is the sum with the opposite
pub sub_is : (a b : ℕ) → sub_ℕ a b ≡ pos a +ℤ neg_ℤ (pos b)
sub_is a zero = rw (le-ltb a 0 zero-le) (ap pos (omega arith))
sub_is a (suc b) = refl

pub interchange : (a b c d : ℤ) → (a +ℤ b) +ℤ (c +ℤ d) ≡ (a +ℤ c) +ℤ (b +ℤ d)
interchange a b c d =
    +ℤ_assoc a b (c +ℤ d)
    ∙ ap (λ (x : ℤ). a +ℤ x) (sym (+ℤ_assoc b c d) ∙ ap (λ (x : ℤ). x +ℤ d) (+ℤ_comm b c) ∙ +ℤ_assoc c b d)
    ∙ sym (+ℤ_assoc a c (b +ℤ d))

-- differences over neighbouring stretches add up
pub sub-chain : (a b c : ℕ) → sub_ℕ b a +ℤ sub_ℕ c b ≡ sub_ℕ c a
sub-chain a b c =
    ap₂ (λ (x y : ℤ). x +ℤ y) (sub_is b a) (sub_is c b) ∙ +ℤ_comm (pos b -ℤ pos a) (pos c -ℤ pos b)
    ∙ sym (+ℤ_assoc (pos c -ℤ pos b) (pos b) (neg_ℤ (pos a)))
    ∙ ap (λ (x : ℤ). x +ℤ neg_ℤ (pos a)) (-ℤ-+ℤ_cancel (pos c) (pos b)) ∙ sym (sub_is c a)

pub sub_same : (a : ℕ) → sub_ℕ a a ≡ pos 0
sub_same a = sub_is a a ∙ +ℤ_invr (pos a)

-- what was added can be taken back
pub plus-minus : (x y : ℤ) → (x +ℤ y) -ℤ y ≡ x
plus-minus x y = +ℤ-neg_ℤ_cancel x y

-- a product with a sum
one_less : (m x y : ℤ) → m *ℤ (x +ℤ y) ≡ m *ℤ x +ℤ m *ℤ y → pred_ℤ m *ℤ (x +ℤ y) ≡ pred_ℤ m *ℤ x +ℤ pred_ℤ m *ℤ y
one_less m x y e =
    pred_ℤ-*ℤ m (x +ℤ y) ∙ ap₂ (λ (a b : ℤ). a +ℤ b) e (neg_ℤ-+ℤ x y) ∙ interchange (m *ℤ x) (m *ℤ y) (neg_ℤ x) (neg_ℤ y)
    ∙ sym (ap₂ (λ (a b : ℤ). a +ℤ b) (pred_ℤ-*ℤ m x) (pred_ℤ-*ℤ m y))

times-pos : (w : ℕ) (x y : ℤ) → pos w *ℤ (x +ℤ y) ≡ pos w *ℤ x +ℤ pos w *ℤ y
times-pos zero x y = zero-*ℤ (x +ℤ y) ∙ sym (ap₂ (λ (a b : ℤ). a +ℤ b) (zero-*ℤ x) (zero-*ℤ y))
times-pos (suc w) x y =
    suc_ℤ-*ℤ (pos w) (x +ℤ y) ∙ ap (λ (a : ℤ). a +ℤ (x +ℤ y)) (times-pos w x y) ∙ interchange (pos w *ℤ x) (pos w *ℤ y) x y
    ∙ sym (ap₂ (λ (a b : ℤ). a +ℤ b) (suc_ℤ-*ℤ (pos w) x) (suc_ℤ-*ℤ (pos w) y))

times-neg : (w : ℕ) (x y : ℤ) → negsuc w *ℤ (x +ℤ y) ≡ negsuc w *ℤ x +ℤ negsuc w *ℤ y
times-neg zero x y = one_less (pos 0) x y (times-pos 0 x y)
times-neg (suc w) x y = one_less (negsuc w) x y (times-neg w x y)

pub times-sum : (w x y : ℤ) → w *ℤ (x +ℤ y) ≡ w *ℤ x +ℤ w *ℤ y
times-sum (pos w) = times-pos w
times-sum (negsuc w) = times-neg w

-- a number or 0, as a test says, is the number times 1 or 0
pub pick-times : (t : Bool) (z : ℤ) → pick t z (pos 0) ≡ pick t (pos 1) (pos 0) *ℤ z
pick-times true z = sym (suc_ℤ-*ℤ (pos 0) z ∙ ap (λ (x : ℤ). x +ℤ z) (zero-*ℤ z) ∙ +ℤ_idl z)
pick-times false z = sym (zero-*ℤ z)

-- a product with an opposite, and with a difference
pub times-neg-of : (m k : ℤ) → m *ℤ neg_ℤ k ≡ neg_ℤ (m *ℤ k)
times-neg-of m (pos zero) = *ℤ-zero m ∙ sym (ap neg_ℤ (*ℤ-zero m))
times-neg-of m (pos (suc n)) = *ℤ-negsuc m n
times-neg-of m (negsuc n) = sym (ap neg_ℤ (*ℤ-negsuc m n) ∙ neg_ℤ-neg_ℤ (m *ℤ pos (suc n)))

pub times-difference : (w x y : ℤ) → w *ℤ (x -ℤ y) ≡ w *ℤ x -ℤ w *ℤ y
times-difference w x y = times-sum w x (neg_ℤ y) ∙ ap (λ (z : ℤ). w *ℤ x +ℤ z) (times-neg-of w y)

-- a difference with u in it that lacks something of n
pub sub-short : (u b n : ℕ) → u ≤ n → sub_ℕ u b ≡ pos n -ℤ pos b -ℤ pos (n - u)
sub-short u b n h =
    let s : sub_ℕ n u ≡ pos (n - u) = rw (le-ltb n u h) refl in
    sym (ap (λ (z : ℤ). z -ℤ pos (n - u)) (sym (sub_is n b) ∙ sym (sub-chain b u n) ∙ ap (λ (z : ℤ). sub_ℕ u b +ℤ z) s) ∙ plus-minus (sub_ℕ u b) (pos (n - u)))

-- sizes of a difference, a sum and a product
pub size-sub : (a b n : ℕ) → a ≤ n → b ≤ n → nat_abs (sub_ℕ a b) ≤ n
size-sub a b n ha hb =
    by (ltb a b) (λ t. nat_abs (cond t (negsuc (b - suc a)) (pos (a - b))) ≤ n) (λ q. omega tests) (λ q. omega tests)

pub size-sum : (x y : ℤ) → nat_abs (x +ℤ y) ≤ nat_abs x + nat_abs y
size-sum (pos a) (pos b) = omega tests
size-sum (pos a) (negsuc b) = size-sub a (suc b) (a + suc b) (omega tests) (omega tests)
size-sum (negsuc a) (pos b) = size-sub b (suc a) (suc a + b) (omega tests) (omega tests)
size-sum (negsuc a) (negsuc b) = omega tests

size-neg : (x : ℤ) → nat_abs (neg_ℤ x) ≡ nat_abs x
size-neg (pos zero) = refl
size-neg (pos (suc n)) = refl
size-neg (negsuc n) = refl

pub size-product : (w z : ℤ) → nat_abs (w *ℤ z) ≡ nat_abs w * nat_abs z
size-product (pos w) (pos b) = refl
size-product (pos w) (negsuc b) = size-neg (pos (w * suc b))
size-product (negsuc w) (pos b) = size-neg (pos (suc w * b))
size-product (negsuc w) (negsuc b) = refl
