-- What stands when a span's next band is to be added: the months before it are, they are in earlier groups, and what they have is known.
-- Assumes nothing.
use Prim.Native.Nat.{ℕ, ◌+◌, ◌-◌, ◌≤◌, ◌<◌, min}
use mathlib.Core.Path.{◌≡◌, refl, sym, ap, ◌∙◌}
use mathlib.Core.List.{List}
use native.Mathlib.Omega.{arith}
use borrow.Author.Tests.{eq-eqb, ne_eqb}
use lib.IntN.{ℤ, pos, nat_abs}
use Rattle.claim_months.specs.declared.Span.{Span}
use Rattle.claim_months.specs.Span.{span_u, span_b, SpanBounds}
use Rattle.rates.specs.declared.Kind.{Kind}
use Rattle.rates.specs.Rates.{group_of, group_last, last_of}
use Rattle.rates.specs.design.Prepared.{part_recovery, part_death}
use Rattle.rates.proofs.Laws.{by-group, last-of-group, last-from, group-same}
use Rattle.study.specs.declared.amounts.Amounts.{Amounts}
use Rattle.study.specs.design.LentAdding.{guarded_plus}
use Rattle.study.specs.design.Private.{months_figure, share_by}
use Rattle.study.proofs.Banded.{before_at}
use Rattle.study.proofs.Raised.{Before}

pub record NextBand (kind : Kind) (part : List ℕ) (span : Span) (weight from : ℕ) (initial : List ℤ) (before : Amounts) (band end : ℕ) (sums : List ℤ) : Type 0 where
  -- its first duration
  pub d : ℕ
  pub low : span.first.0 ≤ d
  pub inside : d < span.first.0 + span.months
  pub group : band ≡ group_of d
  pub ends : end ≡ last_of band
  pub fresh : Before span (d - span.first.0)
  pub thirtieths : before.thirtieths ≡ before_at (λ d. pos 1) from d (span_b span (d - span.first.0))
  pub recoveries : before.recoveries ≡ before_at (part_recovery kind part) from d (span_b span (d - span.first.0))
  pub deaths : before.deaths ≡ before_at (part_death kind part) from d (span_b span (d - span.first.0))
  pub few : nat_abs before.thirtieths ≤ 1000200000000000
  pub few-recoveries : nat_abs before.recoveries ≤ 1000200000000000
  pub few-deaths : nat_abs before.deaths ≤ 1000200000000000
  pub added : sums ≡ guarded_plus initial (share_by weight (months_figure (part_recovery kind part) (part_death kind part) span (d - span.first.0)))

-- the next group begins behind a group's last duration
pub group-after : (d : ℕ) → group_last d < 4294967295
    → (group_of (group_last d + 1) ≡ group_of d + 1) × (group_of d ≤ 4) × (group_last d < last_of (group_of d + 1))
unfolding group_of last_of
group-after d =
    by-group d (λ g l. l < 4294967295 → (group_of (l + 1) ≡ g + 1) × (g ≤ 4) × (l < last_of (g + 1)))
    (λ p h. (refl, omega arith, omega arith)) (λ o p h. (refl, omega arith, omega arith)) (λ o p h. (refl, omega arith, omega arith))
    (λ o p h. (refl, omega arith, omega arith)) (λ o h. absurd (omega arith))

-- U of a month that isn't the span's last, and of the last
pub full : (sp : Span) (j : ℕ) → j + 1 < sp.months → 0 ≡ 30 - span_u sp j
unfolding span_u
full sp j h = rw (ne_eqb (j + 1) sp.months (λ (e : j + 1 ≡ sp.months). omega arith)) refl

pub last-short : (sp : Span) (j : ℕ) → j + 1 ≡ sp.months → 30 - sp.through.0 ≡ 30 - span_u sp j
unfolding span_u
last-short sp j h = rw (eq-eqb (j + 1) sp.months h) refl

-- a span's months up to its last are all
pub all-months : (f k l : ℕ) → 0 < k → l ≡ f + (k - 1) → l + 1 - f ≡ k
all-months f k l h e = omega arith

-- a band that begins at d ends with its group or with the span
module _ (span : Span) (bounds : SpanBounds span) (d band end last : ℕ) (low : span.first.0 ≤ d) (inside : d < span.first.0 + span.months)
    (group : band ≡ group_of d) (ends : end ≡ last_of band) (all : last + 1 ≡ span.first.0 + span.months) where
  ends-group : end ≡ group_last d
  ends-group = ends ∙ ap last_of group ∙ last-of-group d

  pub some : d ≤ end
  some = omega (arith, ends-group, last-from d (omega (arith, bounds.first_high, bounds.months_high)))

  pub turn-end : end < last → end ≡ min (group_last d) (span.first.0 + (span.months - 1))
  turn-end h = omega (arith, ends-group)

  pub turn-next : end < last → (band + 1 ≡ group_of (end + 1)) × (band ≤ 4) × (end < last_of (band + 1))
  turn-next h =
      let a = group-after d (omega (arith, ends-group, bounds.first_high, bounds.months_high)) in
      rw (group, ends-group) (sym a.0, a.1, a.2)

  pub last-end : last ≤ end → last ≡ min (group_last d) (span.first.0 + (span.months - 1))
  last-end h = omega (arith, ends-group)

  pub last-group : last ≤ end → band ≡ group_of (span.first.0 + (span.months - 1))
  last-group h = group ∙ sym (group-same d (span.first.0 + (span.months - 1)) (omega arith) (omega (arith, ends-group)))
