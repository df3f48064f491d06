-- `valuation::factor::known_factor` meets its contract: refused where a test of refusal 12 says so, else group 1's figures, or those that `factors_of` ensures.
-- Assumes nothing.
use Prim.Native.Nat.{ℕ, ◌≤◌, ◌<◌}
use mathlib.Core.Path.{◌≡◌, refl, sym, ap, ◌∙◌}
use mathlib.Core.Bool.{Bool, true, false, ◌&&◌, and-false}
use borrow.Author.Tests.{le-leb, lt-leb, leb-true}
use native.Mathlib.Omega.{arith}
use lib.Dec.{leb}
use lib.IntN.{ℤ}
use Rattle.std.specs.Prelude.{Ok, Err}
use Rattle.basics.proofs.Tests.{by, and_left}
use Rattle.valuation.specs.declared.GroupFactor.{GroupFactor}
use Rattle.valuation.specs.Factor.{factor_sound, factors_of, factor_in}
use Rattle.valuation.specs.WantedCount.{good_group}
use Rattle.valuation.proofs.factor.known_factor.Goals as goal
use Rattle.valuation.proofs.factor.known_factor.Goals.{then-not-is_group-via-then-not-is_group, then-not-is_group-via-else-not-is_group+then-terminations-from}

module _ (g c : ℕ) where
  sound-is : factor_sound g c ≡ (good_group g && leb c 500000)
  unfolding factor_sound good_group
  sound-is = by (leb 1 g) (λ s. (s && leb g 5 && leb c 500000) ≡ ((s && leb g 5) && leb c 500000)) (λ q. refl) (λ q. refl)

  is-sound : good_group g ≡ true → c ≤ 500000 → factor_sound g c ≡ true
  is-sound h l = sound-is ∙ rw (h, le-leb c 500000 l)

  no_group : good_group g ≡ false → factor_sound g c ≡ false
  no_group h = sound-is ∙ ap (λ (s : Bool). s && leb c 500000) h

  many : 500000 < c → factor_sound g c ≡ false
  many l = sound-is ∙ rw (lt-leb c 500000 l) (and-false (good_group g))

  low : good_group g ≡ true → 1 ≤ g
  unfolding good_group
  low h = leb-true 1 g (and_left (leb 1 g) (leb g 5) h)

module _ (g c : ℕ) (e : ℤ) where
  refused : factor_sound g c ≡ false → Err 12 ≡ factor_in g c e
  unfolding factor_in
  refused h = simp h

  answered : factor_sound g c ≡ true → Ok (factors_of g c e) ≡ factor_in g c e
  unfolding factor_in
  answered h = simp h

  one : g ≡ 1 → ◌≡◌ {A = GroupFactor} (record { z = 0; m = 0; t = 1000000 }) (factors_of g c e)
  unfolding factors_of
  one h = rw h

pub returns-then-not-is_group : goal.returns-then-not-is_group
returns-then-not-is_group c =
    let unsound : factor_sound c.args.group c.args.terminations ≡ false
    = elim c.then-not-is_group.branch [
      | then-not-is_group-via-then-not-is_group w ↦ no_group _ _ (sym c.is_group.ensures ∙ w.if-not-is_group.true)
      | then-not-is_group-via-else-not-is_group+then-terminations-from w ↦ many _ _ (omega arith)
    ] in
    refused _ _ _ unsound

pub returns-then-group-eq1 : goal.returns-then-group-eq1
returns-then-group-eq1 c =
    ap Ok (one _ _ _ c.if-group-eq1.true) ∙ answered _ _ _ (is-sound _ _ (sym c.if-not-is_group.ensures) (omega arith))

pub factors_of-requires : goal.factors_of-requires
factors_of-requires c = let l = low c.args.group c.args.terminations (sym c.if-not-is_group.ensures) in (omega arith, omega arith)

pub returns : goal.returns
returns c = ap Ok c.factors_of.ensures ∙ answered _ _ _ (is-sound _ _ (sym c.if-not-is_group.ensures) (omega arith))
