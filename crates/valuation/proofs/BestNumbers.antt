-- z and r are the numbers that document 01 asks for, said of the call's answers: `largest` and `smallest` find them (`Laws`). Assumes nothing.
use Prim.Native.Nat.{ℕ, ◌*◌, ◌≤◌}
use mathlib.Core.Path.{◌≡◌, sym, ap, ◌∙◌}
use native.Mathlib.Omega.{arith}
use native.Mathlib.Nat.{mul-le-mul}
use borrow.Author.Tests.{leb-true, ne_eqb, eq-eqb}
use lib.Dec.{eqb}
use lib.IntN.{ℤ}
use Rattle.basics.specs.Pick.{pick}
use Rattle.basics.specs.Checks.{refuse_valuation}
use Rattle.basics.proofs.Tests.{tests, by}
use Rattle.valuation.specs.declared.GroupFactor.{GroupFactor}
use Rattle.valuation.specs.Factor.{IsLargest, smallest, group_k, positive, z_reaches, r_reaches, credibility, margin, factor_of, factor_sound, factors_of, factor_in}
use Rattle.valuation.specs.BestNumbers.{BestOfGroups}
use Rattle.valuation.proofs.Laws.{group-has, largest-one, smallest-one, credibility-is, root_is, margin-above}
use Rattle.std.specs.Prelude.{Ok, Err, Result}

-- what the call answers in a group above 1
module _ (g c : ℕ) (e : ℤ) (f : GroupFactor) (above : 2 ≤ g) (answer : factor_in g c e ≡ Ok f) where
  answered : factors_of g c e ≡ f
  unfolding factor_in
  answered =
      by (factor_sound g c) (λ t. pick {A = Result GroupFactor ℕ} t (Ok (factors_of g c e)) (Err refuse_valuation) ≡ Ok f → factors_of g c e ≡ f)
      (λ _ q. cc) (λ _ q. let z : ◌≡◌ {A = ℕ} 0 1 = cc in absurd (omega arith)) answer

  by-parts : factors_of g c e ≡ record { z = credibility g e; m = margin g c; t = factor_of g c e }
  unfolding factors_of
  by-parts = simp (ne_eqb g 1 (omega arith))

  z-is : credibility g e ≡ f.z
  z-is = ap (λ (x : GroupFactor). x.z) (sym by-parts) ∙ ap (λ (x : GroupFactor). x.z) answered

  m-is : margin g c ≡ f.m
  m-is = ap (λ (x : GroupFactor). x.m) (sym by-parts) ∙ ap (λ (x : GroupFactor). x.m) answered

k-low : (g : ℕ) → 1 ≤ group_k g
unfolding group_k
k-low g = group-has (λ k. 1 ≤ k) g (omega arith) (omega arith) (omega arith) (omega arith)

-- without E no number above 0 reaches
no-z : (g : ℕ) (e : ℤ) → positive e ≡ 0 → credibility g e ≡ 0
unfolding z_reaches
no-z g e none =
    let z = credibility g e in
    let h : z * z * 30 * group_k g ≤ 1000000 * positive e = leb-true _ _ (credibility-is g e).has in
    by (eqb z 0) (λ _. z ≡ 0) (λ q. omega tests)
    (λ q.
    let one : 1 ≤ z = omega tests in
    let square : 1 * 1 ≤ z * z = mul-le-mul one one in
    let most : 1 * 1 * 30 ≤ z * z * 30 = omega (arith, square) in
    let more : 1 * 1 * 30 * 1 ≤ z * z * 30 * group_k g = mul-le-mul most (k-low g) in
    absurd (omega (arith, h, more, none)))

no-r : (g c : ℕ) → c ≡ 0 → margin g c ≡ 150000
unfolding margin
no-r g c e = simp (eq-eqb c 0 e)

pub best-of-groups : BestOfGroups
best-of-groups g c e f above answer =
    let z = z-is g c e f above answer in
    let m = m-is g c e f above answer in
    let is : IsLargest (z_reaches g e) 1000000 f.z = rw z at (credibility-is g e) in
    record {
      largest = is;
      one_largest = λ q h. largest-one h is;
      no_expected = λ none. omega (arith, z, no-z g e none);
      smallest = λ l. (smallest (r_reaches g c) 2060000, root_is g c l);
      margin_of = λ l r h. omega (arith, m, margin-above g c l, smallest-one h (root_is g c l));
      no_closing = λ none. omega (arith, m, no-r g c none);
    }
