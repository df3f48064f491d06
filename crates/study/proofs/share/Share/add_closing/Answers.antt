-- `study::share::Share::add_closing` meets its contract: the closing month's group and category have one more, and no other column of counts.
-- Assumes nothing.
use Prim.Native.Nat.{ℕ, ◌+◌, ◌-◌, ◌*◌, ◌≤◌}
use mathlib.Core.Path.{◌≡◌, refl, sym, ap, ◌∙◌}
use mathlib.Core.Bool.{true, ◌&&◌, and-false}
use native.Mathlib.Omega.{arith}
use native.Mathlib.Nat.{mul-zero}
use borrow.Author.Tests.{eq-eqb, ne_eqb}
use lib.Dec.{eqb}
use lib.IntN.{pos}
use Rattle.basics.specs.Pick.{pick}
use Rattle.basics.proofs.Tests.{tests, by, pick_is}
use Rattle.claim_months.specs.declared.Span.{Span}
use Rattle.claim_months.specs.Span.{span_closing}
use Rattle.rates.specs.Rates.{group_of}
use Rattle.study.specs.Sums.{is_count}
use Rattle.study.specs.Study.{count_in_group}
use Rattle.study.specs.design.LentAdding.{guarded_plus}
use Rattle.study.specs.design.Private.{closing_figure, one_figure}
use Rattle.study.proofs.Places.{a-count}
use Rattle.study.proofs.Raised.{none-raised, share-same, no-closing}
use Rattle.study.proofs.share.Share.add_closing.Goals as goal

-- one at group g₀ and category y, as the code counts it and as the definition does
one_placed : (g₀ y g c : ℕ) → 1 ≤ y → y ≤ 5
    → pick (eqb g g₀ && eqb c y) (pos 1) (pos 0) ≡ pick (is_count c) (pos (pick (eqb g₀ g) 1 0 * pick (eqb y c) 1 0)) (pos 0)
one_placed g₀ y g c low high =
    by (eqb c y) (λ t. pick (eqb g g₀ && t) (pos 1) (pos 0) ≡ pick (is_count c) (pos (pick (eqb g₀ g) 1 0 * pick (eqb y c) 1 0)) (pos 0))
    (λ u.
    rw (a-count c (omega tests) (omega tests), eq-eqb y c (omega tests))
    (by (eqb g g₀) (λ t. pick (t && true) (pos 1) (pos 0) ≡ pos (pick (eqb g₀ g) 1 0 * 1))
    (λ v. rw (eq-eqb g₀ g (omega tests)) refl) (λ v. rw (ne_eqb g₀ g (λ (e : g₀ ≡ g). omega tests)) refl)))
    (λ u.
    rw (and-false (eqb g g₀))
    (sym (pick_is (is_count c) (λ _. rw (ne_eqb y c (λ (e : y ≡ c). omega tests)) (ap pos (mul-zero (pick (eqb g₀ g) 1 0)))) (λ _. refl))))

module _ (sp : Span) where
  one-closing : (d g₀ : ℕ) → 1 ≤ sp.category → sp.category ≤ 5 → g₀ ≡ group_of d → d ≡ sp.first.0 + (sp.months - 1) → (g c : ℕ)
      → one_figure g₀ sp.category (pos 1) g c ≡ closing_figure sp g c
  unfolding one_figure closing_figure span_closing count_in_group
  one-closing d g₀ low high q e g c =
      rw (ne_eqb sp.category 0 (λ (z : sp.category ≡ 0). omega tests), ← e, ← q) (one_placed g₀ sp.category g c low high)

pub returns-then-category-eq0 : goal.returns-then-category-eq0
returns-then-category-eq0 c =
    none-raised c.args.self.weight c.args.sums.now (closing_figure c.args.self.span) c.told-sums (no-closing c.args.self.span (omega arith))

pub returns : goal.returns
returns c =
    c.raise_both.ensures
    ∙ ap (guarded_plus c.args.sums.now)
    (share-same c.args.self.weight _ (closing_figure c.args.self.span)
    (λ g i _ _ _. one-closing c.args.self.span _ _ (omega arith) c.args.self.span_bounds.category_high c.requires.group_value refl g i))
