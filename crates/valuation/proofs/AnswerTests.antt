-- Which tests lead to which answer of the two calls. Assumes nothing.
use Prim.Native.Nat.{ℕ}
use mathlib.Core.Path.{◌≡◌, refl, sym, ap, ◌∙◌}
use mathlib.Core.Bool.{Bool, true, false, ◌&&◌, and-false}
use mathlib.Core.List.{List}
use borrow.Author.Tests.{eqb-true, eqb-false, ne_eqb}
use lib.Dec.{leb, ltb, eqb}
use lib.Ieee.{Float, binary64, of_bits, lt, le}
use Rattle.basics.specs.Pick.{pick}
use Rattle.basics.specs.Checks.{check, ◌then◌}
use Rattle.basics.specs.declared.refusal.Refusal.{Refusal}
use Rattle.basics.specs.Refused.{number_of}
pub use Rattle.basics.proofs.Refused.{not-zero, passed_on}
use Rattle.basics.proofs.Tests.{tests, by}
use Rattle.rates.specs.Rates.{table_sound, rates_sound, cells, rate_check}
use Rattle.valuation.specs.Rate.{valuation_rate, duration_sound, valuation_check, rate_in}
use Rattle.valuation.specs.Reserve.{reserve_of, discount_sound, reserve_check, reserve_in}
use Rattle.valuation.specs.design.Private.{handed_on}
use Rattle.valuation.proofs.ReserveLaws.{zero_bits, one-bits}
use Rattle.std.specs.Prelude.{Ok, Err}
use Rattle.valuation.specs.declared.Reserve.TheVariants as reserve

module _ (rates : List ℕ) (cell t d : ℕ) where
  pub rate-refused : (r : Refusal) → number_of r ≡ rate_check rates cell → Err (number_of r) ≡ rate_in rates cell t d
  unfolding rate_in valuation_check ◌then◌
  rate-refused r e = rw e (simp (ne_eqb (rate_check rates cell) 0 (not-zero r _ e)))

  module _ (passed : 0 ≡ rate_check rates cell) where
    pub rate-duration : duration_sound d ≡ false → Err 12 ≡ rate_in rates cell t d
    unfolding rate_in valuation_check ◌then◌
    rate-duration f = simp (← passed, f)

    pub rate-found : duration_sound d ≡ true → Ok (valuation_rate rates cell t d) ≡ rate_in rates cell t d
    unfolding rate_in valuation_check ◌then◌
    rate-found f = simp (← passed, f)

module _ (rates : List ℕ) (cell first months : ℕ) (v : Float) where
  pub table-refused : (r : Refusal) → number_of r ≡ rate_check rates cell → number_of r ≡ reserve_check rates cell first months v
  unfolding reserve_check ◌then◌
  table-refused r e = rw e (simp (ne_eqb (rate_check rates cell) 0 (not-zero r _ e)))

  module _ (passed : 0 ≡ rate_check rates cell) where
    pub reserve-duration : (duration_sound first && leb months 480) ≡ false → 12 ≡ reserve_check rates cell first months v
    unfolding reserve_check ◌then◌
    reserve-duration f = simp (← passed, f)

    pub reserve-discount :
        (duration_sound first && leb months 480) ≡ true → discount_sound v ≡ false → 13 ≡ reserve_check rates cell first months v
    unfolding reserve_check ◌then◌
    reserve-discount f g = simp (← passed, f, g)

    pub reserve-passes :
        (duration_sound first && leb months 480) ≡ true → discount_sound v ≡ true → 0 ≡ reserve_check rates cell first months v
    unfolding reserve_check ◌then◌
    reserve-passes f g = simp (← passed, f, g)

module _ (rates : List ℕ) (cell first : ℕ) (t : List ℕ) (months : ℕ) (v : Float) where
  pub reserve-refused :
      (r : Refusal) → number_of r ≡ reserve_check rates cell first months v → reserve.Refused (number_of r) ≡ reserve_in rates cell first t months v
  unfolding reserve_in
  reserve-refused r e = rw e (simp (ne_eqb (reserve_check rates cell first months v) 0 (not-zero r _ e)))

  pub reserve-found :
      0 ≡ reserve_check rates cell first months v → reserve.Factor (reserve_of rates cell first t months v) ≡ reserve_in rates cell first t months v
  unfolding reserve_in
  reserve-found h = simp (← h)

-- the checks of the factor call, and a refusal of them handed on
abbrev chain : Bool → Bool → Bool → Bool → Bool → ℕ
chain x y z a b = (check x 6 then check y 7 then check z 8) then check a 12 then check b 13

chain-handed : (x y z a b : Bool) → (chain x y z a b ≡ 0 → ⊥) → handed_on (chain x y z a b) ≡ chain x y z a b
unfolding ◌then◌ handed_on
chain-handed false y z a b h = refl
chain-handed true false z a b h = refl
chain-handed true true false a b h = refl
chain-handed true true true false b h = refl
chain-handed true true true true false h = refl
chain-handed true true true true true h = absurd (h refl)

module _ (rates : List ℕ) (cell first : ℕ) (t : List ℕ) (months : ℕ) (v : Float) where
  abbrev number : ℕ
  number = reserve_check rates cell first months v

  check-handed : (number ≡ 0 → ⊥) → handed_on number ≡ number
  unfolding reserve_check rate_check
  check-handed h =
      chain-handed (table_sound rates) (ltb cell (cells rates)) (rates_sound rates cell) (duration_sound first && leb months 480) (discount_sound v) h

  pub refusal-handed : (n : ℕ) → reserve.Refused n ≡ reserve_in rates cell first t months v → handed_on n ≡ number
  unfolding reserve_in
  refusal-handed n =
      by (eqb number 0) (λ s. reserve.Refused n ≡ pick s (reserve.Factor (reserve_of rates cell first t months v)) (reserve.Refused number) → handed_on n ≡ number)
      (λ q e. let z : ◌≡◌ {A = ℕ} 0 1 = cc in absurd (omega tests))
      (λ q e. let same : n ≡ number = cc in ap handed_on same ∙ check-handed (eqb-false number 0 q))

  -- a factor found is that of sound months
  pub factor-found : (x : Float) → reserve.Factor x ≡ reserve_in rates cell first t months v → (0 ≡ number) × (x ≡ reserve_of rates cell first t months v)
  unfolding reserve_in
  factor-found x =
      let y = reserve_of rates cell first t months v in
      by (eqb number 0) (λ s. reserve.Factor x ≡ pick s (reserve.Factor y) (reserve.Refused number) → (0 ≡ number) × (x ≡ y))
      (λ q e. let same : x ≡ y = cc in (sym (eqb-true number 0 q), same)) (λ q e. let z : ◌≡◌ {A = ℕ} 0 1 = cc in absurd (omega tests))

-- the code's two tests of the discount, with its constants by their bits, are check 13's
module _ (v : Float) where
  pub discount-passes : lt (of_bits binary64 0) v ≡ true → le v (of_bits binary64 0x3ff0_0000_0000_0000) ≡ true → discount_sound v ≡ true
  unfolding discount_sound
  discount-passes a b = simp (← zero_bits, ← one-bits, a, b)

  pub discount-over : le v (of_bits binary64 0x3ff0_0000_0000_0000) ≡ false → discount_sound v ≡ false
  unfolding discount_sound
  discount-over b = simp (← one-bits, b, and-false)

  pub discount-under : lt (of_bits binary64 0) v ≡ false → discount_sound v ≡ false
  unfolding discount_sound
  discount-under a = simp (← zero_bits, a)
