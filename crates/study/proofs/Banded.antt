-- A band of months as the code has it: what the months up to its end have, less what those before it have. One law serves thirtieths, recoveries and deaths.
-- Assumes nothing.
use Prim.Native.Nat.{ℕ, zero, suc, ◌+◌, ◌-◌, ◌≤◌}
use mathlib.Core.Path.{◌≡◌, refl, sym, ap, ap₂, ◌∙◌}
use native.Mathlib.Omega.{arith}
use native.Mathlib.Nat.{add-zero, add-suc}
use lib.IntN.{ℤ, pos, negsuc, nat_abs, neg_ℤ, ◌+ℤ◌, ◌-ℤ◌, ◌*ℤ◌, +ℤ_idl, +ℤ_idr, +ℤ_assoc, +ℤ_comm, +ℤ_invr, neg_ℤ-+ℤ, zero-*ℤ}
use Rattle.basics.specs.Series.{sum_to}
use Rattle.basics.proofs.Integers.{times-sum, interchange, size-sum}
use Rattle.claim_months.specs.Span.{band_sum}
use Rattle.claim_months.proofs.SpanIsBand.{ones_over}
use Rattle.rates.specs.design.Prepared.{rates_over}
use Rattle.rates.proofs.Laws.{over-is, over-more}

size-opposite : (x : ℤ) → nat_abs (neg_ℤ x) ≡ nat_abs x
size-opposite (pos zero) = refl
size-opposite (pos (suc n)) = refl
size-opposite (negsuc n) = refl

pub size-difference : (x y : ℤ) → nat_abs (x -ℤ y) ≤ nat_abs x + nat_abs y
size-difference x y = omega (arith, size-sum x (neg_ℤ y), size-opposite y)

-- what is left of w without s and without b
pub size-left : (w s b m l : ℤ) → m ≡ w -ℤ s → l ≡ m -ℤ b → nat_abs l ≤ nat_abs w + nat_abs s + nat_abs b
size-left w s b m l em el = rw (el, em) (omega (arith, size-difference w s, size-difference (w -ℤ s) b))

-- each month counts one
pub ones : (d n : ℕ) → rates_over (λ d. pos 1) d n ≡ pos n
unfolding rates_over
ones d n = ones_over n

-- a stretch behind another
over-apart : (w : ℕ → ℤ) (s n m : ℕ) → 2 ≤ s → rates_over w s (n + m) ≡ rates_over w s n +ℤ rates_over w (s + n) m
unfolding rates_over sum_to
over-apart w s n zero h = rw (add-zero n) (sym (+ℤ_idr (rates_over w s n)))
over-apart w s n (suc m) h =
    let e : s + (n + m) ≡ s + n + m = omega arith in
    rw (add-suc n m)
    (over-more w s (n + m) h ∙ ap₂ (λ (x y : ℤ). x +ℤ y) (over-apart w s n m h) (ap w e) ∙ +ℤ_assoc (rates_over w s n) (rates_over w (s + n) m) (w (s + n + m))
    ∙ ap (λ (z : ℤ). rates_over w s n +ℤ z) (sym (over-more w (s + n) m (omega arith))))

-- the rates over one duration are its rate
pub one-rate : (w : ℕ → ℤ) (d : ℕ) → 2 ≤ d → rates_over w d 1 ≡ w d
unfolding sum_to
one-rate w d low = over-is w d 1 low ∙ rw (add-zero d) (+ℤ_idl (w d))

-- what the months from one duration on and before another have, with what the first of those from that on lacks
unfoldable pub before_at : (ℕ → ℤ) → ℕ → ℕ → ℕ → ℤ
before_at w s d b = pos 30 *ℤ rates_over w s (d - s) +ℤ pos b *ℤ rates_over w d 1

-- what those up to a duration have, less what the last of them is short of
unfoldable pub up_to : (ℕ → ℤ) → ℕ → ℕ → ℕ → ℤ
up_to w s e v = pos 30 *ℤ rates_over w s (e + 1 - s) -ℤ pos v *ℤ rates_over w e 1

pub before-is : (w : ℕ → ℤ) (s d b : ℕ) (x y z : ℤ) → z ≡ x +ℤ y → x ≡ pos 30 *ℤ rates_over w s (d - s) → y ≡ pos b *ℤ rates_over w d 1 → z ≡ before_at w s d b
unfolding before_at
before-is w s d b x y z e f g = e ∙ ap₂ ◌+ℤ◌ f g

pub up_to_is : (w : ℕ → ℤ) (s e v : ℕ) (x y z : ℤ) → z ≡ x -ℤ y → x ≡ pos 30 *ℤ rates_over w s (e + 1 - s) → y ≡ pos v *ℤ rates_over w e 1 → z ≡ up_to w s e v
unfolding up_to
up_to_is w s e v x y z h f g = h ∙ ap₂ ◌-ℤ◌ f g

less-before : (x y b v : ℤ) → (x +ℤ y -ℤ v) -ℤ (x +ℤ b) ≡ y -ℤ b -ℤ v
less-before x y b v =
    ap (λ (z : ℤ). x +ℤ y -ℤ v +ℤ z) (neg_ℤ-+ℤ x b)
    ∙ ap (λ (z : ℤ). z +ℤ (neg_ℤ x +ℤ neg_ℤ b)) (+ℤ_assoc x y (neg_ℤ v))
    ∙ interchange x (y +ℤ neg_ℤ v) (neg_ℤ x) (neg_ℤ b)
    ∙ ap (λ (z : ℤ). z +ℤ (y +ℤ neg_ℤ v +ℤ neg_ℤ b)) (+ℤ_invr x) ∙ +ℤ_idl (y +ℤ neg_ℤ v +ℤ neg_ℤ b)
    ∙ +ℤ_assoc y (neg_ℤ v) (neg_ℤ b) ∙ ap (λ (z : ℤ). y +ℤ z) (+ℤ_comm (neg_ℤ v) (neg_ℤ b)) ∙ sym (+ℤ_assoc y (neg_ℤ b) (neg_ℤ v))

-- without anything lacking
pub whole_before : (w : ℕ → ℤ) (s d : ℕ) → pos 30 *ℤ rates_over w s (d - s) ≡ before_at w s d 0
unfolding before_at
whole_before w s d = sym (ap (λ (z : ℤ). pos 30 *ℤ rates_over w s (d - s) +ℤ z) (zero-*ℤ (rates_over w d 1)) ∙ +ℤ_idr (pos 30 *ℤ rates_over w s (d - s)))

pub whole-up_to : (w : ℕ → ℤ) (s e : ℕ) → pos 30 *ℤ rates_over w s (e + 1 - s) ≡ up_to w s e 0
unfolding up_to
whole-up_to w s e =
    sym (ap (λ (z : ℤ). pos 30 *ℤ rates_over w s (e + 1 - s) -ℤ z) (zero-*ℤ (rates_over w e 1)) ∙ +ℤ_idr (pos 30 *ℤ rates_over w s (e + 1 - s)))

pub banded : (w : ℕ → ℤ) (s d e b v : ℕ) → 2 ≤ s → s ≤ d → d ≤ e → up_to w s e v -ℤ before_at w s d b ≡ band_sum w d (e - d + 1) b v
unfolding up_to before_at band_sum
banded w s d e b v low le some =
    let n : e + 1 - s ≡ d - s + (e - d + 1) = omega arith in
    let f : s + (d - s) ≡ d = omega arith in
    let l : d + (e - d + 1 - 1) ≡ e = omega arith in
    let x = pos 30 *ℤ rates_over w s (d - s) in
    let y = pos 30 *ℤ rates_over w d (e - d + 1) in
    let whole : pos 30 *ℤ rates_over w s (e + 1 - s) ≡ x +ℤ y =
    rw n (ap (λ (z : ℤ). pos 30 *ℤ z) (rw f at (over-apart w s (d - s) (e - d + 1) low)) ∙ times-sum (pos 30) (rates_over w s (d - s)) (rates_over w d (e - d + 1))) in
    rw (whole, one-rate w d (omega arith), one-rate w e (omega arith), l)
    (less-before x y (pos b *ℤ w d) (pos v *ℤ w e) ∙ ap (λ (z : ℤ). pos 30 *ℤ z -ℤ pos b *ℤ w d -ℤ pos v *ℤ w e) (over-is w d (e - d + 1) (omega arith)))
