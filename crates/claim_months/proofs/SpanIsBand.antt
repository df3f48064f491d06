-- The sum over some months of a span at once: all have 30 thirtieths but the span's first and last.
-- Assumes nothing.
use Prim.Native.Nat.{ℕ, zero, suc, ◌+◌, ◌-◌, ◌*◌, ◌≤◌, ◌<◌}
use mathlib.Core.Path.{◌≡◌, refl, sym, ap, ap₂, ◌∙◌, subst}
use lib.IntN.{ℤ, pos, neg_ℤ, sub_ℕ, ◌+ℤ◌, ◌-ℤ◌, ◌*ℤ◌, +ℤ_idl, +ℤ_idr, +ℤ_assoc, *ℤ_comm, zero-*ℤ}
use lib.Dec.{eqb}
use borrow.Author.Tests.{ne_eqb}
use native.Mathlib.Nat.{add-zero, mul-one, mul-zero}
use native.Mathlib.Numerals.{add-one}
use Rattle.basics.specs.Pick.{pick}
use Rattle.basics.specs.Series.{sum_to}
use Rattle.basics.proofs.Tests.{tests, by}
use Rattle.basics.proofs.Integers.{interchange, times-sum, times-difference, sub-short}
use Rattle.claim_months.specs.declared.Span.{Span}
use Rattle.claim_months.proofs.Spans.{sum_same}
use Rattle.claim_months.specs.Span.{span_u, span_b, span_thirtieths, span_weighted, band_sum, span_band, SpanBounds}
use Rattle.claim_months.specs.SpanIsBand.{SpanIsBand}

-- one month's thirtieths times a weight
one-month : (w : ℤ) (u b : ℕ) → u ≤ 30 → w *ℤ sub_ℕ u b ≡ pos 30 *ℤ w -ℤ pos b *ℤ w -ℤ pos (30 - u) *ℤ w
one-month w u b h =
    ap (λ (z : ℤ). w *ℤ z) (sub-short u b 30 h) ∙ times-difference w (pos 30 -ℤ pos b) (pos (30 - u))
    ∙ ap (λ (z : ℤ). z -ℤ w *ℤ pos (30 - u)) (times-difference w (pos 30) (pos b))
    ∙ (λ i. *ℤ_comm w (pos 30) i -ℤ *ℤ_comm w (pos b) i -ℤ *ℤ_comm w (pos (30 - u)) i)

-- what is lacking at the front of one part and at the end of the other
joined : (x y b v : ℤ) → (x -ℤ b) +ℤ (y -ℤ v) ≡ (x +ℤ y) -ℤ b -ℤ v
joined x y b v = interchange x (neg_ℤ b) y (neg_ℤ v) ∙ sym (+ℤ_assoc (x +ℤ y) (neg_ℤ b) (neg_ℤ v))

-- a band is that of any weight with the same values at its durations, and without any value it is 0
pub band-same : (v w : ℕ → ℤ) (d m b s : ℕ) → 0 < m → ((j : ℕ) → j < m → v (d + j) ≡ w (d + j)) → band_sum v d m b s ≡ band_sum w d m b s
unfolding band_sum
band-same v w d m b s hm h =
    let first : v d ≡ w d = rw (add-zero d) at (h 0 hm) in
    λ i. pos 30 *ℤ sum_same (λ j. v (d + j)) (λ j. w (d + j)) m h i -ℤ pos b *ℤ first i -ℤ pos s *ℤ h (m - 1) (omega tests) i

none_over : (m : ℕ) → sum_to (λ j. pos 0) m ≡ pos 0
unfolding sum_to
none_over zero = refl
none_over (suc m) = ap (λ (z : ℤ). z +ℤ pos 0) (none_over m)

pub band-none : (d m b s : ℕ) → band_sum (λ j. pos 0) d m b s ≡ pos 0
unfolding band_sum
band-none d m b s = rw (none_over m, mul-zero b, mul-zero s) refl

-- where each month counts 1
pub ones_over : (m : ℕ) → sum_to (λ j. pos 1) m ≡ pos m
unfolding sum_to
ones_over zero = refl
ones_over (suc m) = ap (λ (z : ℤ). z +ℤ pos 1) (ones_over m) ∙ ap pos (add-one m)

-- a band in which each month counts 1
pub band-ones : (d m b s : ℕ) → band_sum (λ j. pos 1) d m b s ≡ pos (30 * m) -ℤ pos b -ℤ pos s
unfolding band_sum
band-ones d m b s = rw (ones_over m, mul-one b, mul-one s) refl

-- U and B of a span's months are at most 30
pub span-u-high : (sp : Span) → SpanBounds sp → (j : ℕ) → span_u sp j ≤ 30
unfolding span_u
span-u-high sp bounds j = by (eqb (j + 1) sp.months) (λ t. pick t sp.through.0 30 ≤ 30) (λ q. bounds.through_high) (λ q. omega tests)

pub span-b-high : (sp : Span) → SpanBounds sp → (j : ℕ) → span_b sp j ≤ 30
unfolding span_b
span-b-high sp bounds j = by (eqb j 0) (λ t. pick t sp.before.0 0 ≤ 30) (λ q. bounds.before_high) (λ q. omega tests)

module _ (w : ℕ → ℤ) (sp : Span) (bounds : SpanBounds sp) where
  abbrev weight_at : ℕ → ℤ
  weight_at j = w (sp.first.0 + j)

  U-bound : (j : ℕ) → span_u sp j ≤ 30
  U-bound = span-u-high sp bounds

  -- the first of them alone
  band-one : (a : ℕ) → span_weighted w sp (suc a) ≡ span_weighted w sp a +ℤ span_band w sp a 1
  unfolding span_weighted sum_to span_band band_sum span_thirtieths
  band-one a =
      let d = sp.first.0 + a in
      rw (add-zero d, add-zero a, +ℤ_idl (w d)) (ap (λ (z : ℤ). span_weighted w sp a +ℤ z) (one-month (w d) (span_u sp a) (span_b sp a) (U-bound a)))

  -- a month that is not the span's last has U 30, one that is not its first B 0
  U-full : (j : ℕ) → j + 1 < sp.months → span_u sp j ≡ 30
  unfolding span_u
  U-full j h = rw (ne_eqb (j + 1) sp.months (λ e. omega tests))

  B-none : (j : ℕ) → 0 < j → span_b sp j ≡ 0
  unfolding span_b
  B-none j h = rw (ne_eqb j 0 (λ e. omega tests))

  -- one month more, where the last so far is not the span's
  band-more : (a m : ℕ) → 1 ≤ m → a + m < sp.months → span_band w sp a m +ℤ weight_at (a + m) *ℤ span_thirtieths sp (a + m) ≡ span_band w sp a (suc m)
  unfolding span_band band_sum sum_to span_thirtieths
  band-more a m hm h =
      let d = sp.first.0 + a in
      let x = pos 30 *ℤ sum_to (λ j. w (d + j)) m in
      let b = pos (span_b sp a) *ℤ w d in
      let y = pos 30 *ℤ w (d + m) in
      let v = pos (30 - span_u sp (a + m)) *ℤ w (d + m) in
      let e1 : sp.first.0 + (a + m) ≡ d + m = omega tests in
      let e2 : suc m - 1 ≡ m = omega tests in
      let front : x -ℤ b -ℤ pos (30 - span_u sp (a + (m - 1))) *ℤ w (d + (m - 1)) ≡ x -ℤ b =
      rw (U-full (a + (m - 1)) (omega tests), zero-*ℤ (w (d + (m - 1)))) (+ℤ_idr (x -ℤ b)) in
      let whole : y -ℤ pos (span_b sp (a + m)) *ℤ w (d + m) ≡ y = rw (B-none (a + m) (omega tests), zero-*ℤ (w (d + m))) (+ℤ_idr y) in
      let last : w (sp.first.0 + (a + m)) *ℤ sub_ℕ (span_u sp (a + m)) (span_b sp (a + m)) ≡ y -ℤ v =
      rw e1 (one-month (w (d + m)) (span_u sp (a + m)) (span_b sp (a + m)) (U-bound (a + m)) ∙ ap (λ (z : ℤ). z -ℤ v) whole) in
      ap₂ (λ (p q : ℤ). p +ℤ q) front last ∙ joined x y b v
      ∙ rw e2 (ap (λ (z : ℤ). z -ℤ b -ℤ v) (sym (times-sum (pos 30) (sum_to (λ j. w (d + j)) m) (w (d + m)))))

  -- the months of a span up to some, and a band of them behind
  pub band-adds : (a m : ℕ) → a + suc m ≤ sp.months → span_weighted w sp (a + suc m) ≡ span_weighted w sp a +ℤ span_band w sp a (suc m)
  unfolding span_weighted sum_to
  band-adds a zero h = let e : a + 1 ≡ suc a = omega tests in rw e (band-one a)
  band-adds a (suc m) h =
      let e : a + suc (suc m) ≡ suc (a + suc m) = omega tests in
      let t = weight_at (a + suc m) *ℤ span_thirtieths sp (a + suc m) in
      rw e
      (ap (λ (z : ℤ). z +ℤ t) (band-adds a m (omega tests)) ∙ +ℤ_assoc (span_weighted w sp a) (span_band w sp a (suc m)) t
      ∙ ap (λ (z : ℤ). span_weighted w sp a +ℤ z) (band-more a (suc m) (omega tests) (omega tests)))

  whole-band : 0 < sp.months → span_weighted w sp sp.months ≡ span_band w sp 0 sp.months
  unfolding span_weighted sum_to
  whole-band h =
      let e : suc (sp.months - 1) ≡ sp.months = omega tests in
      let z : 0 + suc (sp.months - 1) ≡ suc (sp.months - 1) = omega tests in
      subst (λ (m : ℕ). span_weighted w sp m ≡ span_band w sp 0 m) e
      (rw z at (band-adds 0 (sp.months - 1) (omega tests)) ∙ +ℤ_idl (span_band w sp 0 (suc (sp.months - 1))))

pub span-is-band : SpanIsBand
span-is-band w sp bounds h = whole-band w sp bounds h
