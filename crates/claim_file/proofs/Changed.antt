-- A changed byte changes the check: 65,521 has no divisor from 2 to 510, so no byte's difference times its weight is 0 modulo 65,521.
-- Assumes nothing.
use Prim.Native.Nat.{ℕ, zero, suc, ◌+◌, ◌-◌, ◌*◌, ◌%◌, ◌≤◌, ◌<◌}
use mathlib.Core.Path.{◌≡◌, refl, sym, ap, ◌∙◌}
use mathlib.Core.Bool.{Bool, true, false, not}
use mathlib.Core.List.{List}
use native.Mathlib.Omega.{arith}
use native.Mathlib.Nat.{not-suc-le-zero, mul-le-mul, mul-mod_right, mul-add}
use lib.ListN.{length, set}
use lib.Seq.{get_or-set_same, get_or-set_other}
use lib.Dec.{eqb, ltb}
use borrow.Author.Tests.{eqb-true, eqb-false, ne_eqb, not-true}
use Rattle.basics.proofs.Tests.{by, tests, all_below, all-at}
use Rattle.claim_file.specs.Bytes.{byte_at, two_at}
use Rattle.claim_file.specs.Block.{check_sum, check_number}

-- the check's sum goes by the bytes that it sums
pub check-sum-cong : (a b : List ℕ) (n : ℕ) → ((k : ℕ) → k < n → byte_at a k ≡ byte_at b k) → check_sum a n ≡ check_sum b n
unfolding check_sum
check-sum-cong a b zero h = refl
check-sum-cong a b (suc n) h = λ i. check-sum-cong a b n (λ k l. h k (omega arith)) i + (n + 1) * h n (omega arith) i

module _ (bytes : List ℕ) (i v : ℕ) (fits : i < length bytes) where
  here : byte_at (set bytes i v) i ≡ v
  unfolding byte_at
  here = get_or-set_same bytes i v 0 fits

  elsewhere : (k : ℕ) → (k ≡ i → ⊥) → byte_at (set bytes i v) k ≡ byte_at bytes k
  unfolding byte_at
  elsewhere k h = get_or-set_other bytes i k v 0 h

  before : (n : ℕ) → n ≤ i → check_sum (set bytes i v) n ≡ check_sum bytes n
  before n h = check-sum-cong (set bytes i v) bytes n (λ k l. elsewhere k (λ e. omega arith))

  -- the sum moves by the byte's change times its weight
  moved : (n : ℕ) → i < n → check_sum (set bytes i v) n + (i + 1) * byte_at bytes i ≡ check_sum bytes n + (i + 1) * v
  unfolding check_sum
  moved zero h = absurd (not-suc-le-zero h)
  moved (suc n) h =
      by (eqb i n) (λ _. check_sum (set bytes i v) (suc n) + (i + 1) * byte_at bytes i ≡ check_sum bytes (suc n) + (i + 1) * v)
      (λ e.
      let q : n ≡ i = sym (eqb-true i n e) in
      let t : (n + 1) * byte_at (set bytes i v) n ≡ (i + 1) * v = ap (λ (k : ℕ). (k + 1) * byte_at (set bytes i v) k) q ∙ ap (λ (b : ℕ). (i + 1) * b) here in
      let u : (n + 1) * byte_at bytes n ≡ (i + 1) * byte_at bytes i = ap (λ (k : ℕ). (k + 1) * byte_at bytes k) q in
      let w = before n (omega arith) in
      omega arith)
      (λ e.
      let q = eqb-false i n e in
      let m = moved n (omega arith) in
      let t : (n + 1) * byte_at (set bytes i v) n ≡ (n + 1) * byte_at bytes n = ap (λ (b : ℕ). (n + 1) * b) (elsewhere n (λ k. q (sym k))) in
      omega arith)

-- no number from 2 to 510 divides 65,521
undivided : ℕ → Bool
undivided k = not (eqb (65521 % (k + 2)) 0)

all-undivided : all_below undivided 509 ≡ true
unfolding undivided
all-undivided = refl

no-divisor : (a d : ℕ) → 1 ≤ a → a ≤ 510 → d < 256 → a * d ≡ 65521 → ⊥
unfolding undivided
no-divisor a d low high small e =
    by (eqb a 1) (λ _. ⊥)
    (λ q. let p : a ≡ 1 = eqb-true a 1 q in let f : 1 * d ≡ 65521 = sym (ap (λ (k : ℕ). k * d) p) ∙ e in omega arith)
    (λ q.
    let n = eqb-false a 1 q in
    let k : a - 2 < 509 = omega arith in
    let f : a - 2 + 2 ≡ a = omega arith in
    let z : 65521 % a ≡ 0 = ap (λ (m : ℕ). m % a) (sym e) ∙ mul-mod_right a d in
    eqb-false _ _ (not-true _ (all-at undivided 509 all-undivided (a - 2) k)) (ap (λ (m : ℕ). 65521 % m) f ∙ z))

apart : (a x d : ℕ) → 1 ≤ a → a ≤ 510 → 1 ≤ d → d < 256 → (x + a * d) % 65521 ≡ x % 65521 → ⊥
apart a x d low high change small e =
    let l = mul-le-mul low change in
    let s : d ≤ 255 = omega arith in
    let u = mul-le-mul high s in
    no-divisor a d low high small (omega arith)

-- sums that differ by a byte's change have different checks
module _ (a b v : ℕ) (low : 1 ≤ a) (high : a ≤ 510) (old : b < 256) (new : v < 256) where
  rise : (w x : ℕ) → b < v → x + a * b ≡ w + a * v → x % 65521 ≡ w % 65521 → ⊥
  rise w x l e q =
      let f : v ≡ b + (v - b) = omega arith in
      let m : a * v ≡ a * b + a * (v - b) = ap (λ (k : ℕ). a * k) f ∙ mul-add a b (v - b) in
      let g : w + a * (v - b) ≡ x = omega arith in
      apart a w (v - b) low high (omega arith) (omega arith) (ap (λ (k : ℕ). k % 65521) g ∙ q)

pub differ : (a b v : ℕ) → 1 ≤ a → a ≤ 510 → b < 256 → v < 256 → (v ≡ b → ⊥) → (w x : ℕ) → x + a * b ≡ w + a * v → x % 65521 ≡ w % 65521 → ⊥
differ a b v low high old new other w x e q =
    by (ltb b v) (λ _. ⊥)
    (λ t. rise a b v low high old new w x (omega tests) e q)
    (λ t. rise a v b low high new old x w (omega tests) (sym e) (sym q))

-- the check of a block and the one that it carries, after one byte changed
module _ (bytes : List ℕ) (i v : ℕ) (long : length bytes ≡ 512) (place : i < 512) (old : byte_at bytes i < 256) (new : v < 256)
    (other : v ≡ byte_at bytes i → ⊥) (sound : check_number bytes ≡ two_at bytes 510) where
  fits : i < length bytes
  fits = omega arith

  summed : i < 510 → check_number (set bytes i v) ≡ two_at (set bytes i v) 510 → ⊥
  unfolding check_number two_at
  summed h e =
      let l = elsewhere bytes i v fits 510 (λ q. omega arith) in
      let u = elsewhere bytes i v fits 511 (λ q. omega arith) in
      differ (i + 1) (byte_at bytes i) v (omega arith) (omega arith) old new other (check_sum bytes 510) (check_sum (set bytes i v) 510)
      (moved bytes i v fits 510 h)
      (omega arith)

  carried : 510 ≤ i → check_number (set bytes i v) ≡ two_at (set bytes i v) 510 → ⊥
  unfolding check_number two_at
  carried h e =
      let w = ap (λ (k : ℕ). k % 65521) (before bytes i v fits 510 h) in
      by (eqb i 510) (λ _. ⊥)
      (λ t.
      let q : i ≡ 510 = eqb-true i 510 t in
      let n : byte_at (set bytes i v) 510 ≡ v = ap (byte_at (set bytes i v)) (sym q) ∙ here bytes i v fits in
      let o = ap (byte_at bytes) q in
      let u = elsewhere bytes i v fits 511 (λ q. omega arith) in
      other (omega arith))
      (λ t.
      let r = eqb-false i 510 t in
      let q : i ≡ 511 = omega arith in
      let n : byte_at (set bytes i v) 511 ≡ v = ap (byte_at (set bytes i v)) (sym q) ∙ here bytes i v fits in
      let o = ap (byte_at bytes) q in
      let l = elsewhere bytes i v fits 510 (λ q. omega arith) in
      other (omega arith))

  pub check-refused : eqb (check_sum (set bytes i v) 510 % 65521) (two_at (set bytes i v) 510) ≡ false
  unfolding check_number
  check-refused = ne_eqb _ _ (by (ltb i 510) (λ _. check_number (set bytes i v) ≡ two_at (set bytes i v) 510 → ⊥) (λ t. summed (omega tests)) (λ t. carried (omega tests)))
