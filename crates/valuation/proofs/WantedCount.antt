-- The wanted count: it reaches the wanted factor, every smaller one falls short, and 19 and 12 answer exactly where there is none. Assumes nothing.
use Prim.Native.Nat.{ℕ, ◌≤◌, ◌<◌}
use mathlib.Core.Path.{◌≡◌, refl, ap, ◌∙◌}
use mathlib.Core.Bool.{Bool, true, false, and-eq-true_iff}
use native.Mathlib.Omega.{arith}
use native.Mathlib.Nat.{le_refl}
use borrow.Author.Tests.{le-leb, lt-leb, leb-true, leb-false}
use lib.IntN.{ℤ}
use Rattle.basics.proofs.Tests.{tests, by}
use Rattle.valuation.specs.declared.GroupFactor.{GroupFactor}
use Rattle.valuation.specs.Factor.{IsSmallest, smallest, factor_sound, factors_of, factor_in}
use Rattle.valuation.specs.WantedCount.{reaches_wanted, good_group, wanted_in, Reaches, FallsShort, IsWanted, WantedCount}
use Rattle.valuation.proofs.Laws.{clash, smallest-one}
use Rattle.valuation.proofs.WantedLaws.{wanted-rises, smallest-up-to}
use Rattle.std.specs.Prelude.{Err, Ok, Result}

module _ (g : ℕ) (e : ℤ) (wanted : ℕ) where
  abbrev P : ℕ → Bool
  P = reaches_wanted g e wanted

  -- with a good group each count up to 500,000 has its factors, and its T decides
  module _ (good : good_group g ≡ true) (c : ℕ) (l : c ≤ 500000) where
    known : factor_in g c e ≡ Ok (factors_of g c e)
    unfolding factor_in factor_sound good_group
    known =
        let t = simp and-eq-true_iff at good in
        simp (le-leb 1 g (omega tests), le-leb g 5 (omega tests), le-leb c 500000 l)

    same-t : (f : GroupFactor) → factor_in g c e ≡ Ok f → (factors_of g c e).t ≡ f.t
    same-t f q =
        let k = known in
        let same : factors_of g c e ≡ f = cc in
        ap (λ (x : GroupFactor). x.t) same

    reaches : P c ≡ true → Reaches g e wanted c
    unfolding reaches_wanted
    reaches h = (factors_of g c e, known, leb-true _ _ h)

    falls-short : P c ≡ false → FallsShort g e wanted c
    unfolding reaches_wanted
    falls-short h = (factors_of g c e, known, leb-false _ _ h)

    reached : Reaches g e wanted c → P c ≡ true
    unfolding reaches_wanted
    reached r = le-leb wanted (factors_of g c e).t (omega (arith, same-t r.0 r.1, r.2))

    short : FallsShort g e wanted c → P c ≡ false
    unfolding reaches_wanted
    short r = lt-leb wanted (factors_of g c e).t (omega (arith, same-t r.0 r.1, r.2))

  -- the three answers, and which tests lead to each
  bad-group : good_group g ≡ false → wanted_in g e wanted ≡ Err 12
  unfolding wanted_in
  bad-group b = simp b

  no-count : good_group g ≡ true → P 500000 ≡ false → wanted_in g e wanted ≡ Err 19
  unfolding wanted_in
  no-count good h = simp (good, h)

  a-count : good_group g ≡ true → P 500000 ≡ true → wanted_in g e wanted ≡ Ok (smallest P 500000)
  unfolding wanted_in
  a-count good h = simp (good, h)

  cases :
      {Q : Type 0} → (good_group g ≡ false → Q) → (good_group g ≡ true → P 500000 ≡ false → Q) → (good_group g ≡ true → P 500000 ≡ true → Q) → Q
  cases {Q} bad none some = by (good_group g) (λ s. Q) (λ good. by (P 500000) (λ s. Q) (some good) (none good)) bad

  -- below the smallest count that reaches the wanted T, and up to one that doesn't, all fall short
  below-short : (c k : ℕ) → IsSmallest P c → k < c → P k ≡ false
  below-short c k i l = by (P k) (λ s. s ≡ false) (λ h. absurd (omega (arith, i.best k h))) (λ h. refl)

  all_short : P 500000 ≡ false → (k : ℕ) → k ≤ 500000 → P k ≡ false
  all_short f k l = by (P k) (λ s. s ≡ false) (λ h. clash (wanted-rises g e wanted k 500000 l h) f) (λ h. refl)

-- no two answers are one
count-or-refused : {Q : Type 0} {x : Result ℕ ℕ} {c n : ℕ} → x ≡ Ok c → x ≡ Err n → Q
count-or-refused p q = let z : ◌≡◌ {A = ℕ} 0 1 = cc in absurd (omega arith)

one_number : {Q : Type 0} {x : Result ℕ ℕ} → x ≡ Err 19 → x ≡ Err 12 → Q
one_number p q = let z : ◌≡◌ {A = ℕ} 19 12 = cc in absurd (omega arith)

-- the count answered, taken apart; a smallest count is the one answered
module _ (g : ℕ) (e : ℤ) (wanted : ℕ) (good : good_group g ≡ true) (c : ℕ) where
  answered : P g e wanted 500000 ≡ true → wanted_in g e wanted ≡ Ok c → IsWanted g e wanted c
  answered h q =
      let a = a-count g e wanted good h in
      let same : smallest (P g e wanted) 500000 ≡ c = cc in
      let i : IsSmallest (P g e wanted) c = rw same at (smallest-up-to g e wanted 500000 (le_refl _) h) in
      let l : c ≤ 500000 = i.best 500000 h in (
        l,
        reaches g e wanted good c l i.has,
        λ k m. falls-short g e wanted good k (omega arith) (below-short g e wanted c k i m),
      )

  is-answered : IsWanted g e wanted c → wanted_in g e wanted ≡ Ok c
  is-answered w =
      let h = reached g e wanted good c w.0 w.1 in
      let fits : (k : ℕ) → k < c → k ≤ 500000 = λ k m. omega (arith, w.0) in
      let least : (k : ℕ) → P g e wanted k ≡ true → c ≤ k = λ k q.
      let no : (k < c → ⊥) = λ m. clash q (short g e wanted good k (fits k m) (w.2 k m)) in
      omega arith in
      a-count g e wanted good (wanted-rises g e wanted c 500000 w.0 h)
      ∙ ap Ok (smallest-one (smallest-up-to g e wanted c w.0 h) (record { has = h; best = least }))

pub wanted-count : WantedCount
wanted-count g e wanted =
    record {
      count = λ c q.
          cases g e wanted (λ b. count-or-refused q (bad-group g e wanted b)) (λ good f. count-or-refused q (no-count g e wanted good f))
          (λ good h. (good, answered g e wanted good c h q));
      count_is = λ c good w. is-answered g e wanted good c w;
      none = λ q.
          cases g e wanted (λ b. one_number q (bad-group g e wanted b))
          (λ good f. (good, λ k l. falls-short g e wanted good k l (all_short g e wanted f k l)))
          (λ good h. count-or-refused (a-count g e wanted good h) q);
      is_none = λ good all. no-count g e wanted good (short g e wanted good 500000 (le_refl _) (all 500000 (le_refl _)));
      bad = λ q.
          cases g e wanted (λ b. b) (λ good f. one_number (no-count g e wanted good f) q)
          (λ good h. count-or-refused (a-count g e wanted good h) q);
      is_bad = bad-group g e wanted;
    }
