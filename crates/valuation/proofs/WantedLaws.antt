-- Laws of the wanted count: T reaches the wanted one from some count on, and where a search in halves ends. Assumes nothing.
use Prim.Native.Nat.{ℕ, ◌+◌, ◌≤◌, zero-le}
use mathlib.Core.Path.{◌≡◌, refl, ap, ◌∙◌}
use mathlib.Core.Bool.{true, false}
use native.Mathlib.Omega.{arith}
use native.Mathlib.Nat.{le_refl, le_trans}
use borrow.Author.Tests.{le-leb, leb-true}
use lib.Dec.{leb}
use lib.IntN.{ℤ, pos, negsuc}
use Rattle.basics.proofs.Tests.{tests, by, is-pick}
use Rattle.valuation.specs.Factor.{IsSmallest, smallest, positive, z_reaches, credibility, factor_of, factors_of}
use Rattle.valuation.specs.WantedCount.{reaches_wanted, good_group, wanted_in}
use Rattle.valuation.specs.design.Private.{first_reaching}
use Rattle.valuation.proofs.Laws.{Rises, smallest-is, smallest-one, smallest-at, t-rises}
use Rattle.std.specs.Prelude.{Err, Ok}

pub wanted-rises : (g : ℕ) (e : ℤ) (wanted : ℕ) → Rises (reaches_wanted g e wanted)
unfolding reaches_wanted
wanted-rises g e wanted j k l h = le-leb _ _ (le_trans (leb-true _ _ h) (t-rises g j k e l))

module _ (g : ℕ) (e : ℤ) (wanted : ℕ) where
  -- where T reaches the wanted one at a count up to 500,000, it does so at 500,000, and the smallest such count is one
  pub smallest-up-to : (c : ℕ) → c ≤ 500000 → reaches_wanted g e wanted c ≡ true → IsSmallest (reaches_wanted g e wanted) (smallest (reaches_wanted g e wanted) 500000)
  smallest-up-to c l h = smallest-is (reaches_wanted g e wanted) 500000 (wanted-rises g e wanted c 500000 l h)

  -- a smallest count is where a search ends
  pub found : (c : ℕ) → c ≤ 500000 → IsSmallest (reaches_wanted g e wanted) c → c ≡ first_reaching g e wanted
  unfolding first_reaching
  found c l i =
      rw (wanted-rises g e wanted c 500000 l i.has) (smallest-one i (smallest-up-to c l i.has))

  pub none_found : reaches_wanted g e wanted 500000 ≡ false → 500001 ≡ first_reaching g e wanted
  unfolding first_reaching
  none_found f = rw f

  -- no closings are the smallest count
  pub none_needed : reaches_wanted g e wanted 0 ≡ true → 0 ≡ first_reaching g e wanted
  none_needed h = found 0 zero-le (record { has = h; best = λ k q. zero-le })

  -- the search ends with neighbours: low falls short, and high reaches the wanted T unless it is past the last count
  pub search-ends :
      (low high : ℕ) → high ≡ low + 1 → high ≤ 500001 → reaches_wanted g e wanted low ≡ false
      → (high ≤ 500000 → reaches_wanted g e wanted high ≡ true) → high ≡ first_reaching g e wanted
  search-ends low high n b short reached =
      by (leb high 500000) (λ s. high ≡ first_reaching g e wanted)
      (λ t.
      let l : high ≤ 500000 = omega tests in
      found high l (rw n (smallest-at (wanted-rises g e wanted) short (rw n at (reached l)))))
      (λ f.
      let over : high ≡ 500001 = omega tests in
      let last : low ≡ 500000 = omega arith in
      over ∙ none_found (rw last at short))

  -- what the call answers, from where the search ended
  module _ (good : good_group g ≡ true) where
    pub over : (c : ℕ) → c ≡ first_reaching g e wanted → 500001 ≤ c → Err 19 ≡ wanted_in g e wanted
    unfolding first_reaching wanted_in
    over c q l =
        rw good
        (is-pick (reaches_wanted g e wanted 500000)
        (λ h. absurd (omega (arith, rw h at q, (smallest-up-to 500000 (le_refl _) h).best 500000 h)))
        (λ h. refl))

    pub under : (c : ℕ) → c ≡ first_reaching g e wanted → c ≤ 500000 → Ok c ≡ wanted_in g e wanted
    unfolding first_reaching wanted_in
    under c q l =
        rw good
        (is-pick (reaches_wanted g e wanted 500000) (λ h. ap Ok (rw h at q)) (λ h. absurd (omega (arith, rw h at q))))

-- the answer depends on the positive part alone of E
pub wanted-of-positive : (g : ℕ) (e : ℤ) (wanted : ℕ) → wanted_in g (pos (positive e)) wanted ≡ wanted_in g e wanted
unfolding wanted_in reaches_wanted factors_of factor_of credibility z_reaches positive
wanted-of-positive g (pos e) wanted = refl
wanted-of-positive g (negsuc e) wanted = refl
