-- Check 13 keeps NaN out: P and D stay from 0 to 1, so their product is a number, and a sum of such numbers from 0 on is no NaN.
-- Assumes nothing.
use Prim.Native.Nat.{ℕ, zero, suc, ◌+◌, ◌-◌, ◌*◌, ◌^◌, ◌≤◌, ◌<◌}
use mathlib.Core.Path.{◌≡◌, refl, sym, subst}
use mathlib.Core.Bool.{Bool, true, false, cond, ◌&&◌, ◌||◌, true≢false}
use mathlib.Core.List.{List}
use native.Mathlib.Omega.{arith}
use native.Mathlib.Nat.{le_trans, le_of_eq, mul-pos, mul-le-mul, mul-le-mul_right}
use borrow.Author.Tests.{eqb-true}
use lib.Dec.{T, ltb, eqb}
use lib.Ieee.{Float, nan, inf, fin, Format, binary64, prec, emax, low, up, down, odd, units, round, of_int, sum, add, mul, div, lt, eq, le, is_nan}
use lib.Ieee.Fits.{down_pos, round_is}
use lib.Ieee.Exact.{HasValue}
use lib.Ieee.Order.{round_mono}
use lib.Ieee.Back.{round_whole}
use Rattle.basics.specs.Pick.{pick}
use Rattle.basics.proofs.Tests.{tests, by, and_left, and_right}
use Rattle.valuation.specs.Reserve.{float, start, month, running, reserve_of, discount_sound, reserve_check, reserve_in}
use Rattle.valuation.specs.Number.{FactorIsNumber}
use Rattle.valuation.proofs.ReserveLaws.{reserve-passed}
use Rattle.valuation.specs.declared.Reserve.TheVariants.{Factor, Refused}
use Rattle.valuation.specs.declared.reserve_factor.Running.{Running}

-- not negative, and no NaN
abbrev pub NotNegative : Float → Type 0
NotNegative nan = ⊥
NotNegative (inf true) = ⊥
NotNegative (inf false) = Unit
NotNegative (fin true m e) = ⊥
NotNegative (fin false m e) = Unit

pub number : (x : Float) → NotNegative x → is_nan x ≡ false
unfolding is_nan
number nan h = absurd h
number (inf s) h = refl
number (fin s m e) h = refl

-- from 0 to 1
abbrev Share : Float → Type 0
Share nan = ⊥
Share (inf s) = ⊥
Share (fin true m e) = ⊥
Share (fin false m e) = m * up e ≤ down e

share-not-negative : (x : Float) → Share x → NotNegative x
share-not-negative nan h = h
share-not-negative (inf s) h = absurd h
share-not-negative (fin true m e) h = h
share-not-negative (fin false m e) h = tt

odd-not-negative : (d q k l : ℕ) → NotNegative (odd d false q k l)
unfolding odd
odd-not-negative d zero k l = tt
odd-not-negative d (suc q) k l = tt

units-not-negative : (f : Format) (q k : ℕ) → NotNegative (units f false q k)
unfolding units
units-not-negative f q k =
    go (ltb (q * 2 ^ k) (2 ^ (low f + suc (emax f)))) (odd (suc (prec f)) false q k (low f)) (odd-not-negative (suc (prec f)) q k (low f))
  where
    go : (t : Bool) (x : Float) → NotNegative x → NotNegative (cond t x (inf false))
    go true x h = h
    go false x h = tt

round-not-negative : (f : Format) (a c : ℕ) → NotNegative (round f false a c)
round-not-negative f a c = rw round_is (units-not-negative f _ _)

-- what is not negative and at most 1 is from 0 to 1
at_most : (a b : ℕ) → T (ltb a b || (eqb a b && true)) → a ≤ b
at_most a b =
    by (ltb a b) (λ t. T (t || (eqb a b && true)) → a ≤ b) (λ e h. omega tests)
    (λ f. by (eqb a b) (λ t. T (t && true) → a ≤ b) (λ e h. omega tests) (λ e h. absurd h))

share-of : (x : Float) → NotNegative x → T (le x (float 1)) → Share x
unfolding le lt eq float of_int
share-of nan n h = n
share-of (inf true) n h = n
share-of (inf false) n h = h
share-of (fin true m e) n h = n
share-of (fin false m e) n h = omega (arith, at_most (m * up e * 1) (1 * down e) h)

-- a fraction up to 1 rounds to a number from 0 to 1
round-share : (a c : ℕ) → 0 < c → a ≤ c → Share (round binary64 false a c)
unfolding float of_int
round-share a c p h =
    share-of (round binary64 false a c) (round-not-negative binary64 a c) (round_mono binary64 a c 1 1 p (omega arith) (omega arith))

mul-share : (x y : Float) → Share x → Share y → Share (mul binary64 x y)
unfolding mul
mul-share nan y p q = absurd p
mul-share (inf s) y p q = absurd p
mul-share (fin true m e) y p q = absurd p
mul-share (fin false m e) nan p q = q
mul-share (fin false m e) (inf t) p q = absurd q
mul-share (fin false m e) (fin true n d) p q = absurd q
mul-share (fin false m e) (fin false n d) p q =
    round-share (m * up e * (n * up d)) (down e * down d) (mul-pos (down_pos e) (down_pos d)) (mul-le-mul p q)

pub add-not-negative : (x y : Float) → NotNegative x → NotNegative y → NotNegative (add binary64 x y)
unfolding add sum
add-not-negative nan y p q = p
add-not-negative (inf true) y p q = absurd p
add-not-negative (inf false) nan p q = q
add-not-negative (inf false) (inf true) p q = q
add-not-negative (inf false) (inf false) p q = tt
add-not-negative (inf false) (fin t n d) p q = tt
add-not-negative (fin true m e) y p q = absurd p
add-not-negative (fin false m e) nan p q = q
add-not-negative (fin false m e) (inf true) p q = q
add-not-negative (fin false m e) (inf false) p q = tt
add-not-negative (fin false m e) (fin true n d) p q = absurd q
add-not-negative (fin false m e) (fin false n d) p q =
    round-not-negative binary64 (m * up e * down d + n * up d * down e) (down e * down d)

-- a whole number up to 1,000,000, over 1,000,000, is from 0 to 1
over-million : (k : ℕ) (x : Float) → k ≤ 1000000 → HasValue x false k 1 → Share (div binary64 x (float 1000000))
unfolding div float of_int
over-million k nan h v = v
over-million k (inf s) h v = absurd v
over-million k (fin true m e) h v = absurd (true≢false v.0)
over-million k (fin false m e) h v =
    round-share (m * up e * 1) (1000000 * down e) (omega (arith, down_pos e))
    (le_trans (le_of_eq v.1) (mul-le-mul_right (down e) h))

survival-share : (g : ℕ) → Share (div binary64 (float (1000000 - g)) (float 1000000))
survival-share g = over-million (1000000 - g) (float (1000000 - g)) (omega arith) value
  where
    value : HasValue (float (1000000 - g)) false (1000000 - g) 1
    value = unfold float of_int in round_whole binary64 false (1000000 - g) (omega arith)

above_zero : (v : Float) → lt (float 0) v ≡ true → NotNegative v
unfolding lt float of_int
above_zero nan h = true≢false (sym h)
above_zero (inf true) h = true≢false (sym h)
above_zero (inf false) h = tt
above_zero (fin true n d) h = true≢false (sym h)
above_zero (fin false n d) h = tt

discount-share : (v : Float) → discount_sound v ≡ true → Share v
unfolding discount_sound
discount-share v h =
    share-of v (above_zero v (and_left (lt (float 0) v) (le v (float 1)) h))
    (subst T (sym (and_right (lt (float 0) v) (le v (float 1)) h)) tt)

record Sound (run : Running) : Type 0 where
  p-share : Share run.p
  d-share : Share run.d
  sum-not-negative : NotNegative run.sum

start-sound : Sound start
unfolding start float of_int
start-sound = record { p-share = omega arith; d-share = omega arith; sum-not-negative = tt }

month-sound : (run : Running) (g : ℕ) (v : Float) → Share v → Sound run → Sound (month run g v)
unfolding month
month-sound run g v h s =
    let next = month run g v in
    let p = mul-share _ _ s.p-share (survival-share g) in
    let d = mul-share _ _ s.d-share h in
    let product = share-not-negative (mul binary64 next.p next.d) (mul-share next.p next.d p d) in
    record { p-share = p; d-share = d; sum-not-negative = add-not-negative _ _ s.sum-not-negative product }

module _ (rates : List ℕ) (cell first : ℕ) (t : List ℕ) (v : Float) (passed : discount_sound v ≡ true) where
  running-sound : (n : ℕ) → Sound (running rates cell first t v n)
  unfolding running
  running-sound zero = start-sound
  running-sound (suc n) = month-sound _ _ v (discount-share v passed) (running-sound n)

  pub factor-not-negative : (months : ℕ) → NotNegative (reserve_of rates cell first t months v)
  unfolding reserve_of
  factor-not-negative months = (running-sound months).sum-not-negative

  -- no factor is a NaN
  pub factor-number : (months : ℕ) → is_nan (reserve_of rates cell first t months v) ≡ false
  factor-number months = number _ (factor-not-negative months)

-- so no answer of the call carries a NaN
pub answer-number : FactorIsNumber
unfolding reserve_in
answer-number rates cell first t months v x =
    by (eqb k 0) (λ s. pick s (Factor y) (Refused k) ≡ Factor x → is_nan x ≡ false)
    (λ q e.
    let same : y ≡ x = cc in
    rw same at (factor-number rates cell first t v (reserve-passed rates cell first months v (eqb-true k 0 q)).3 months))
    (λ q e. let z : ◌≡◌ {A = ℕ} 0 1 = cc in absurd (omega arith))
  where
    k : ℕ
    k = reserve_check rates cell first months v

    y : Float
    y = reserve_of rates cell first t months v
