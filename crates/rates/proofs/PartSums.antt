-- Sums of a part's rates over durations: those up to 480 by their places, and 480's rate again with each later one.
-- Assumes nothing.
use Prim.Native.Nat.{ℕ, zero, suc, ◌+◌, ◌-◌, ◌*◌, ◌≤◌, ◌<◌, min, max}
use mathlib.Core.Path.{◌≡◌, refl, sym, ap, ap₂, ◌∙◌, fun_ext}
use mathlib.Core.Bool.{true}
use mathlib.Core.List.{List}
use native.Mathlib.Omega.{arith}
use native.Mathlib.Nat.{zero-add, add-zero, add-suc, add_assoc}
use native.Mathlib.Numerals.{add-one}
use lib.ListN.{length, get_or}
use lib.Dec.{leb}
use lib.IntN.{ℤ, pos, nat_abs, ◌+ℤ◌, ◌*ℤ◌, +ℤ_idl, +ℤ_idr, +ℤ_assoc, suc_ℤ-*ℤ, zero-*ℤ}
use mir.Syntax.{w64}
use mir.Val.{SFits, to_z, of_z}
use borrow.Author.Tests.{eq-eqb, ne_eqb}
use Rattle.basics.specs.Series.{sum_to}
use Rattle.basics.specs.Tables.{all_at_most}
use Rattle.basics.proofs.Integers.{size-sum}
use Rattle.basics.proofs.Signed.{small-fits, read_back, result_fits, result-is}
use Rattle.basics.proofs.Tests.{tests, by}
use Rattle.rates.specs.declared.Kind.{Kind}
use Rattle.rates.specs.declared.Kind.TheVariants.{Plain, Prepared}
use Rattle.rates.specs.Rates.{place, recovery_rate, death_rate}
use Rattle.rates.specs.design.Prepared.{prepared_rate, recovery_of, death_of, part_recovery, part_death, rates_over}
use Rattle.rates.proofs.Laws.{over-more}
use Rattle.rates.proofs.Running.{times-size}
use Rattle.rates.proofs.SameTable.{recovery-size, death-size}

-- rates that depend on a duration's place alone: a sum may start at the duration of the first one's place, and past 480 it has 480's rate again with
-- each duration
module _ (rate : ℕ → ℤ) (same : (d e : ℕ) → place d ≡ place e → rate d ≡ rate e) where
  places : (d j : ℕ) → place (max d 2 + j) ≡ place (max (place d + 2) 2 + j)
  unfolding place
  places d j =
      by (leb d 480) (λ _. place (max d 2 + j) ≡ place (max (place d + 2) 2 + j))
      (λ t. let e : max (min d 480 - 2 + 2) 2 ≡ max d 2 = omega tests in rw e)
      (λ t. let e : min d 480 ≡ 480 = omega tests in rw e (omega tests))

  over-place : (d n : ℕ) → rates_over rate (place d + 2) n ≡ rates_over rate d n
  unfolding rates_over
  over-place d n =
      ap (λ (f : ℕ → ℤ). sum_to f n) (fun_ext (λ j. sym (same (max d 2 + j) (max (place d + 2) 2 + j) (places d j))))

  last-place : (p k m : ℕ) → p + k ≡ 479 → place (p + 2 + (k + m)) ≡ place 480
  unfolding place
  last-place p k m h = omega arith

  last-rate : rates_over rate 480 1 ≡ rate 480
  unfolding rates_over sum_to
  last-rate = over-more rate 480 0 (omega arith) ∙ +ℤ_idl (rate 480)

  over-past : (p k m : ℕ) → p + k ≡ 479
      → rates_over rate (p + 2) (k + m) ≡ rates_over rate (p + 2) k +ℤ pos m *ℤ rates_over rate 480 1
  over-past p k zero h = rw (add-zero k, zero-*ℤ (rates_over rate 480 1), +ℤ_idr (rates_over rate (p + 2) k))
  over-past p k (suc m) h =
      let last = rates_over rate 480 1 in
      rw (add-suc k m, suc_ℤ-*ℤ (pos m) last)
      (over-more rate (p + 2) (k + m) (omega arith)
      ∙ ap₂ (λ (x y : ℤ). x +ℤ y) (over-past p k m h) (same (p + 2 + (k + m)) 480 (last-place p k m h) ∙ sym last-rate)
      ∙ +ℤ_assoc (rates_over rate (p + 2) k) (pos m *ℤ last) last)

  all-within : (d k n : ℕ) (s : ℤ) → k ≡ n → s ≡ rates_over rate (place d + 2) k → s ≡ rates_over rate d n
  all-within d k n s e p = p ∙ ap (rates_over rate (place d + 2)) e ∙ over-place d n

  some-past : (d k n m : ℕ) (s l : ℤ) → place d + k ≡ 479 → k + m ≡ n → s ≡ rates_over rate (place d + 2) k → l ≡ rates_over rate 480 1
      → s +ℤ pos m *ℤ l ≡ rates_over rate d n
  some-past d k n m s l h e p q =
      ap₂ (λ (x y : ℤ). x +ℤ pos m *ℤ y) p q ∙ sym (over-past (place d) k m h)
      ∙ all-within d (k + m) n (rates_over rate (place d + 2) (k + m)) e refl

-- no rates, and rates that are no larger than a 32-bit number
over_none : (d n : ℕ) → pos 0 ≡ rates_over (λ _. pos 0) d n
unfolding rates_over sum_to
over_none d zero = refl
over_none d (suc n) = over_none d n ∙ sym (+ℤ_idr (rates_over (λ _. pos 0) d n))

module _ (rate : ℕ → ℤ) (small : (d : ℕ) → nat_abs (rate d) ≤ 4294967295) where
  over-size : (d n : ℕ) → nat_abs (rates_over rate d n) ≤ 4294967295 * n
  unfolding rates_over sum_to
  over-size d zero = omega arith
  over-size d (suc n) = omega (arith, over-size d n, small (max d 2 + n), size-sum (rates_over rate d n) (rate (max d 2 + n)))

-- a sum up to 480 with 480's rate again for each of m later durations, as the code has it: read back from 64 bits after each step
abbrev back : ℤ → ℤ
back z = to_z w64 (of_z w64 z)

pub record Later (x u : ℤ) (m : ℕ) : Type 0 where
  pub product-fits : SFits w64 (back (pos m) *ℤ back u)
  pub fits : SFits w64 (back x +ℤ back (back (pos m) *ℤ back u))
  pub is : back (back x +ℤ back (back (pos m) *ℤ back u)) ≡ x +ℤ pos m *ℤ u

module _ (x u : ℤ) (k m : ℕ) (few : k ≤ 479) (more : m ≤ 65535) (xs : nat_abs x ≤ 4294967295 * k) (us : nat_abs u ≤ 4294967295 * 1) where
  product-size : nat_abs (pos m *ℤ u) ≤ 4294967295 * m
  product-size = times-size m u (omega arith)

  whole-size : nat_abs (x +ℤ pos m *ℤ u) ≤ 4294967295 * (479 + 65535)
  whole-size = omega (arith, product-size, size-sum x (pos m *ℤ u))

  whole_is : back x +ℤ back (back (pos m) *ℤ back u) ≡ x +ℤ pos m *ℤ u
  whole_is =
      ap₂ (λ (v w : ℤ). v +ℤ w) (read_back x (omega arith)) (result-is ◌*ℤ◌ (pos m) u (omega arith) (omega arith) (omega (arith, product-size)))

  pub later : Later x u m
  later =
      record {
        product-fits = result_fits ◌*ℤ◌ (pos m) u (omega arith) (omega arith) (omega (arith, product-size));
        fits = rw whole_is (small-fits (x +ℤ pos m *ℤ u) (omega (arith, whole-size)));
        is = ap back whole_is ∙ read_back (x +ℤ pos m *ℤ u) (omega (arith, whole-size));
      }

-- plain rates by their places, and their sum one place on
module _ (part : List ℕ) (p i : ℕ) (h : p + i < 479) where
  its-place : place (p + 2 + i) ≡ p + i
  unfolding place
  its-place = omega arith

  pub recovery-at : get_or part (p + i) 0 ≡ recovery_rate part 0 (p + 2 + i)
  unfolding recovery_rate
  recovery-at = rw (its-place, zero-add (p + i))

  pub death-at : get_or part (479 + p + i) 0 ≡ death_rate part 0 (p + 2 + i)
  unfolding death_rate
  death-at = rw (its-place, add_assoc 479 p i)

pub plain_more : (rate : ℕ → ℕ) (p i s x : ℕ) → pos s ≡ rates_over (λ d. pos (rate d)) (p + 2) i → x ≡ rate (p + 2 + i)
    → pos (s + x) ≡ rates_over (λ d. pos (rate d)) (p + 2) (i + 1)
plain_more rate p i s x e f =
    rw (add-one i, over-more (λ d. pos (rate d)) (p + 2) i (omega arith), ← e, ← f)

-- a table's rates depend on the place alone
recovery-place : (kind : Kind) (table : List ℕ) (cell d e : ℕ) → place d ≡ place e → recovery_of kind table cell d ≡ recovery_of kind table cell e
unfolding recovery_of recovery_rate prepared_rate
recovery-place Plain table cell d e h = rw h
recovery-place Prepared table cell d e h = rw h

death-place : (kind : Kind) (table : List ℕ) (cell d e : ℕ) → place d ≡ place e → death_of kind table cell d ≡ death_of kind table cell e
unfolding death_of death_rate prepared_rate
death-place Plain table cell d e h = rw h
death-place Prepared table cell d e h = rw h

-- the sums over durations of a part's rates are no larger than so many 32-bit numbers
module _ (kind : Kind) (part : List ℕ) (small : all_at_most 4294967295 part ≡ true) where
  abbrev recovery : ℕ → ℤ
  recovery = recovery_of kind part 0

  abbrev death : ℕ → ℤ
  death = death_of kind part 0

  pub recovery-sized : (d n : ℕ) (x : ℤ) → x ≡ rates_over recovery d n → nat_abs x ≤ 4294967295 * n
  recovery-sized d n x e = rw e (over-size recovery (recovery-size part small kind 0) d n)

  pub death-sized : (d n : ℕ) (x : ℤ) → x ≡ rates_over death d n → nat_abs x ≤ 4294967295 * n
  death-sized d n x e = rw e (over-size death (death-size part small kind 0) d n)

  -- the answer for n durations from d on: what the sums are, and how large
  module _ (d n : ℕ) where
    abbrev Answer : ℤ → ℤ → Type 0
    Answer x y =
        (x ≡ rates_over (part_recovery kind part) d n)
        × ((y ≡ rates_over (part_death kind part) d n) × ((nat_abs x ≤ 4294967295 * n) × (nat_abs y ≤ 4294967295 * n)))

    pub no-rates : (length part ≡ 958 → ⊥) → Answer (pos 0) (pos 0)
    unfolding part_recovery part_death rates_over
    no-rates h = rw (ne_eqb (length part) 958 h) (over_none d n, (over_none d n, (omega arith, omega arith)))

    module _ (len : length part ≡ 958) where
      answered : (x y : ℤ) → x ≡ rates_over recovery d n → y ≡ rates_over death d n → Answer x y
      unfolding part_recovery part_death rates_over
      answered x y e f = rw (eq-eqb (length part) 958 len) (e, (f, (recovery-sized d n x e, death-sized d n y f)))

      module _ (p : ℕ) (first : p ≡ place d) where
        pub within-answer : (k : ℕ) (x y : ℤ) → k ≡ n → x ≡ rates_over recovery (p + 2) k → y ≡ rates_over death (p + 2) k → Answer x y
        within-answer k x y e f g =
            answered x y (all-within recovery (recovery-place kind part 0) d k n x e (rw first at f))
            (all-within death (death-place kind part 0) d k n y e (rw first at g))

        pub past-answer : (k m : ℕ) (x y u v a b : ℤ) → p + k ≡ 479 → k + m ≡ n → x ≡ rates_over recovery (p + 2) k → y ≡ rates_over death (p + 2) k
            → u ≡ rates_over recovery 480 1 → v ≡ rates_over death 480 1 → a ≡ x +ℤ pos m *ℤ u → b ≡ y +ℤ pos m *ℤ v → Answer a b
        past-answer k m x y u v a b h e f g r s q t =
            answered a b (q ∙ some-past recovery (recovery-place kind part 0) d k n m x u (rw first at h) e (rw first at f) r)
            (t ∙ some-past death (death-place kind part 0) d k n m y v (rw first at h) e (rw first at g) s)
