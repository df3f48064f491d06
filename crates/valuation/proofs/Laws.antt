-- Laws of z, m and T over any group: `largest` and `smallest` are what they are named for, and no other number is; z is at most 1,000,000 and never falls as E grows; m is from 30,000 to 150,000 and never rises as C grows; T never falls as C grows; z and T depend on E only where it is positive. `credibility-rises` is for readers.
-- Assumes nothing.
use Prim.Native.Nat.{ℕ, zero, suc, ◌+◌, ◌-◌, ◌*◌, ◌/◌, ◌≤◌, ◌<◌, min, zero-le}
use mathlib.Core.Path.{◌≡◌, refl, sym, ap, subst, ◌∙◌}
use mathlib.Core.Bool.{Bool, true, false}
use mathlib.Core.Logic.{⊎_elim}
use native.Mathlib.Omega.{arith}
use native.Mathlib.Nat.{le_refl, le_trans, le_antisymm, eq-or-lt_of_le, le_of_suc-le-suc, mul-le-mul, mul-le-mul_left, mul-le-mul_right, div-mul-le_self, le-div_iff_mul-le}
use borrow.Author.Tests.{le-leb, leb-true, ne_eqb}
use lib.Dec.{T, eqb, leb→le}
use lib.IntN.{ℤ, pos, negsuc}
use lib.Signed.{◌≤ℤ◌}
use Rattle.basics.specs.Pick.{pick}
use Rattle.basics.proofs.Tests.{by, tests}
use Rattle.valuation.specs.declared.GroupFactor.{GroupFactor}
use Rattle.valuation.specs.Factor.{IsLargest, IsSmallest, largest, smallest, group_k, group_twice_a, positive, z_reaches, credibility, r_reaches, margin, factor_of, factors_of, factor_in}

-- no test comes out both ways
pub clash : {A : Type 0} {t : Bool} → t ≡ true → t ≡ false → A
clash e f = absurd (subst T (sym e ∙ f) tt)

-- what both of two values have, the one picked has
pub pick-has : {A : Type 0} (Q : A → Type 0) {a b : A} (t : Bool) → Q a → Q b → Q (pick t a b)
pick-has Q true p q = p
pick-has Q false p q = q

pub group-has : (Q : ℕ → Type 0) (g : ℕ) {a b c d : ℕ} → Q a → Q b → Q c → Q d → Q (pick (eqb g 2) a (pick (eqb g 3) b (pick (eqb g 4) c d)))
group-has Q g p q r s = pick-has Q (eqb g 2) p (pick-has Q (eqb g 3) q (pick-has Q (eqb g 4) r s))

-- The largest and the smallest number with a property.

pub largest-is : (P : ℕ → Bool) (n : ℕ) → P 0 ≡ true → IsLargest P n (largest P n)
unfolding largest
largest-is P zero h = record { within = le_refl _; has = h; best = λ k l e. l }
largest-is P (suc n) h =
    let i = largest-is P n h in
    by (P (suc n)) (λ t. IsLargest P (suc n) (pick t (suc n) (largest P n)))
    (λ e. record { within = le_refl _; has = e; best = λ k l q. l })
    (λ e. record {
      within = omega (arith, i.within);
      has = i.has;
      best = λ k l q.
          ⊎_elim (λ (s : k ≡ suc n). clash (ap P (sym s) ∙ q) e) (λ m. i.best k (le_of_suc-le-suc m) q)
          (eq-or-lt_of_le l);
    })

pub largest-one : {P : ℕ → Bool} {n a b : ℕ} → IsLargest P n a → IsLargest P n b → a ≡ b
largest-one {P} {n} {a} {b} h i = le_antisymm (i.best a h.within h.has) (h.best b i.within i.has)

-- a property that asks less has a larger one
pub largest-rises : {P Q : ℕ → Bool} {n a b : ℕ} → ((k : ℕ) → P k ≡ true → Q k ≡ true) → IsLargest P n a → IsLargest Q n b → a ≤ b
largest-rises {a = a} f h i = i.best a h.within (f a h.has)

-- `smallest` stops at n only if it found none before
smallest-miss : (P : ℕ → Bool) (n : ℕ) → P (smallest P n) ≡ false → smallest P n ≡ n
unfolding smallest
smallest-miss P zero f = refl
smallest-miss P (suc n) f =
    by (P (smallest P n)) (λ t. P (pick t (smallest P n) (suc n)) ≡ false → pick t (smallest P n) (suc n) ≡ suc n)
    (λ e q. clash e q) (λ e q. refl) f

smallest-best : (P : ℕ → Bool) (n k : ℕ) → P k ≡ true → smallest P n ≤ k
unfolding smallest
smallest-best P zero k h = zero-le
smallest-best P (suc n) k h =
    let i = smallest-best P n k h in
    by (P (smallest P n)) (λ t. pick t (smallest P n) (suc n) ≤ k) (λ e. i)
    (λ e. ⊎_elim (λ (s : smallest P n ≡ k). clash (ap P s ∙ h) e) (λ l. subst (λ (a : ℕ). a < k) (smallest-miss P n e) l)
    (eq-or-lt_of_le i))

pub smallest-is : (P : ℕ → Bool) (n : ℕ) → P n ≡ true → IsSmallest P (smallest P n)
smallest-is P n h =
    record {
      has = by (P (smallest P n)) (λ t. t ≡ true) (λ e. refl) (λ e. clash h (ap P (sym (smallest-miss P n e)) ∙ e));
      best = smallest-best P n;
    }

pub smallest-one : {P : ℕ → Bool} {a b : ℕ} → IsSmallest P a → IsSmallest P b → a ≡ b
smallest-one {P} {a} {b} h i = le_antisymm (h.best b i.has) (i.best a h.has)

pub smallest-falls : {P Q : ℕ → Bool} {a b : ℕ} → ((k : ℕ) → P k ≡ true → Q k ≡ true) → IsSmallest P a → IsSmallest Q b → b ≤ a
smallest-falls {a = a} f h i = i.best a (f a h.has)

-- A property that falls, or rises: a place where it turns is the largest, or smallest, that has it.

abbrev pub Falls : (ℕ → Bool) → Type 0
Falls P = (j k : ℕ) → j ≤ k → P k ≡ true → P j ≡ true

abbrev pub Rises : (ℕ → Bool) → Type 0
Rises P = (j k : ℕ) → j ≤ k → P j ≡ true → P k ≡ true

pub largest-at : {P : ℕ → Bool} {n a : ℕ} → Falls P → a ≤ n → P a ≡ true → P (a + 1) ≡ false → IsLargest P n a
largest-at {P} {n} {a} f l h m =
    record {
      within = l;
      has = h;
      best = λ k w q. let no : (a + 1 ≤ k → ⊥) = λ t. clash (f (a + 1) k t q) m in omega arith;
    }

-- no number up to n is larger than n
pub largest-full : {P : ℕ → Bool} {n : ℕ} → P n ≡ true → IsLargest P n n
largest-full h = record { within = le_refl _; has = h; best = λ k l q. l }

pub smallest-at : {P : ℕ → Bool} {a : ℕ} → Rises P → P a ≡ false → P (a + 1) ≡ true → IsSmallest P (a + 1)
smallest-at {P} {a} f m h =
    record {
      has = h;
      best = λ k q. let no : (k ≤ a → ⊥) = λ t. clash (f k a t q) m in omega arith;
    }

-- z

pub z-falls : (g : ℕ) (e : ℤ) → Falls (z_reaches g e)
unfolding z_reaches
z-falls g e j k l h =
    le-leb _ _ (le_trans (mul-le-mul_right (group_k g) (mul-le-mul_right 30 (mul-le-mul l l))) (leb-true _ _ h))

pub k-high : (g : ℕ) → group_k g ≤ 3300
unfolding group_k
k-high g = group-has (λ k. k ≤ 3300) g (omega arith) (omega arith) (omega arith) (omega arith)

pub credibility-is : (g : ℕ) (e : ℤ) → IsLargest (z_reaches g e) 1000000 (credibility g e)
unfolding credibility z_reaches
credibility-is g e =
    let h : 0 * 0 * 30 * group_k g ≤ 1000000 * positive e = omega arith in
    largest-is (z_reaches g e) 1000000 (le-leb _ _ h)

pub credibility-high : (g : ℕ) (e : ℤ) → credibility g e ≤ 1000000
credibility-high g e = (credibility-is g e).within

positive-rises : (d e : ℤ) → d ≤ℤ e → positive d ≤ positive e
unfolding positive
positive-rises (pos d) (pos e) l = leb→le d e l.le
positive-rises (pos d) (negsuc e) l = absurd l.le
positive-rises (negsuc d) e l = zero-le

pub credibility-rises : (g : ℕ) (d e : ℤ) → d ≤ℤ e → credibility g d ≤ credibility g e
unfolding z_reaches
credibility-rises g d e l =
    largest-rises (λ k h. le-leb _ _ (le_trans (leb-true _ _ h) (mul-le-mul_left 1000000 (positive-rises d e l))))
    (credibility-is g d) (credibility-is g e)

-- m

pub twice-a-bounds : (g : ℕ) → (1 ≤ group_twice_a g) × (group_twice_a g ≤ 8)
unfolding group_twice_a
twice-a-bounds g =
    group-has (λ a. (1 ≤ a) × (a ≤ 8)) g (omega arith) (omega arith) (omega arith) (omega arith)

pub r-rises : (g c : ℕ) → Rises (r_reaches g c)
unfolding r_reaches
r-rises g c j k l h = le-leb _ _ (le_trans (leb-true _ _ h) (mul-le-mul_right c (mul-le-mul l l)))

pub root_is : (g c : ℕ) → 1 ≤ c → IsSmallest (r_reaches g c) (smallest (r_reaches g c) 2060000)
unfolding r_reaches
root_is g c l =
    let h : 530450000000 * group_twice_a g ≤ 2060000 * 2060000 * c = omega (arith, (twice-a-bounds g).1) in
    smallest-is (r_reaches g c) 2060000 (le-leb _ _ h)

pub margin-above : (g c : ℕ) → 1 ≤ c → margin g c ≡ min 150000 (30000 + smallest (r_reaches g c) 2060000)
unfolding margin
margin-above g c l = simp (ne_eqb c 0 (omega arith))

pub margin-bounds : (g c : ℕ) → (30000 ≤ margin g c) × (margin g c ≤ 150000)
unfolding margin
margin-bounds g c = pick-has (λ m. (30000 ≤ m) × (m ≤ 150000)) (eqb c 0) (omega arith) (omega arith)

pub margin-falls : (g b c : ℕ) → b ≤ c → margin g c ≤ margin g b
unfolding margin r_reaches
margin-falls g zero c l = (margin-bounds g c).1
margin-falls g (suc b) c l =
    let l1 : 1 ≤ suc b = omega arith in
    let l2 : 1 ≤ c = omega arith in
    omega (
      arith,
      margin-above g (suc b) l1,
      margin-above g c l2,
      smallest-falls (λ k h. le-leb _ _ (le_trans (leb-true _ _ h) (mul-le-mul_left (k * k) l))) (root_is g (suc b) l1) (root_is g c l2),
    )

-- T

pub div-rises : (d : ℕ) {a b : ℕ} → 1 ≤ d → a ≤ b → a / d ≤ b / d
div-rises d {a} {b} h l = (le-div_iff_mul-le h).1 (le_trans (div-mul-le_self a d) l)

pub factor-rises : (g b c : ℕ) (e : ℤ) → b ≤ c → factor_of g b e ≤ factor_of g c e
unfolding factor_of
factor-rises g b c e l =
    by (eqb (positive e) 0)
    (λ t. pick t 1000000 (quotient b + (1000000 - credibility g e)) ≤ pick t 1000000 (quotient c + (1000000 - credibility g e)))
    (λ h. le_refl _)
    (λ h. omega (arith, div-rises (positive e) (omega tests) (mul-le-mul (mul-le-mul_left (credibility g e * 30) l) m)))
  where
    quotient : ℕ → ℕ
    quotient n = credibility g e * 30 * n * (1000000 - margin g n) / positive e

    m : 1000000 - margin g b ≤ 1000000 - margin g c
    m = omega (arith, margin-falls g b c l)

-- T of any group, group 1 included
pub t-is : (g c : ℕ) (e : ℤ) → (factors_of g c e).t ≡ pick (eqb g 1) 1000000 (factor_of g c e)
unfolding factors_of
t-is g c e =
    by (eqb g 1)
    (λ s.
    (pick {A = GroupFactor} s (record { z = 0; m = 0; t = 1000000 }) (record { z = credibility g e; m = margin g c; t = factor_of g c e })).t
    ≡ pick s 1000000 (factor_of g c e))
    (λ h. refl) (λ h. refl)

pub t-rises : (g b c : ℕ) (e : ℤ) → b ≤ c → (factors_of g b e).t ≤ (factors_of g c e).t
t-rises g b c e l =
    rw (t-is g b e, t-is g c e)
    (by (eqb g 1) (λ s. pick s 1000000 (factor_of g b e) ≤ pick s 1000000 (factor_of g c e)) (λ h. le_refl _) (λ h. factor-rises g b c e l))

-- the answer depends on the positive part alone of E
pub of_positive : (g c : ℕ) (e : ℤ) → factor_in g c (pos (positive e)) ≡ factor_in g c e
unfolding factor_in factors_of factor_of credibility z_reaches positive
of_positive g c (pos e) = refl
of_positive g c (negsuc e) = refl
