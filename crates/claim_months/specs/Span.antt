-- What the span of a claim's month records is, and what the calls of this layer answer.
use Rattle.std.specs.Prelude.{ℕ, ◌+◌, ◌-◌, ◌≤◌, ◌<◌, List, [], ◌∷◌, length, eqb, ℤ, pos, ◌-ℤ◌, ◌*ℤ◌, Err, Ok, Result}
use Rattle.std.proofs.Math.IntN.{sub_ℕ}
use Rattle.basics.specs.Pick.{pick}
use Rattle.basics.specs.Checks.{◌then◌}
use Rattle.claim_months.specs.declared.Claim.{Claim}
use Rattle.claim_months.specs.declared.Span.{Span}
use Rattle.claim_months.specs.Claim.{claim_check}
use Rattle.claim_months.specs.Windows.{window_check}
use Rattle.claim_months.specs.Exposure.{MonthRecord, month_records}
use Rattle.basics.specs.Series.{sum_to}

-- the last of a record and those after it
unfoldable pub last_record : MonthRecord → List MonthRecord → MonthRecord
last_record r [] = r
last_record r (s ∷ rs) = last_record s rs

unfoldable pub span_of : List MonthRecord → Span
span_of [] =
    record { first = record { 0 = 0 }; months = 0; before = record { 0 = 0 }; through = record { 0 = 0 }; category = 0 }
span_of (r ∷ rs) =
    record {
      first = record { 0 = r.duration };
      months = length (r ∷ rs);
      before = record { 0 = r.B };
      through = record { 0 = (last_record r rs).U };
      category = (last_record r rs).category;
    }

-- what the span says of its month j, from 0: its U, its B, its thirtieths. Every month but the first and the last has 30
unfoldable pub span_u : Span → ℕ → ℕ
span_u sp j = pick (eqb (j + 1) sp.months) sp.through.0 30

unfoldable pub span_b : Span → ℕ → ℕ
span_b sp j = pick (eqb j 0) sp.before.0 0

unfoldable pub span_thirtieths : Span → ℕ → ℤ
span_thirtieths sp j = sub_ℕ (span_u sp j) (span_b sp j)

-- the sum of thirtieths over its first n months, each times a weight of its duration
unfoldable pub span_weighted : (ℕ → ℤ) → Span → ℕ → ℤ
span_weighted w sp n = sum_to (λ j. w (sp.first.0 + j) *ℤ span_thirtieths sp j) n

-- m months of 30 thirtieths each from duration d on, less b of the first and s of the last
unfoldable pub band_sum : (ℕ → ℤ) → ℕ → ℕ → ℕ → ℕ → ℤ
band_sum w d m b s = pos 30 *ℤ sum_to (λ j. w (d + j)) m -ℤ pos b *ℤ w d -ℤ pos s *ℤ w (d + (m - 1))

-- the sum over the m months from the span's month a on: they lack B of the first and what U of the last is short of 30
unfoldable pub span_band : (ℕ → ℤ) → Span → ℕ → ℕ → ℤ
span_band w sp a m = band_sum w (sp.first.0 + a) m (span_b sp a) (30 - span_u sp (a + (m - 1)))

-- the weight of its closing month, if it has one: the last month
unfoldable pub span_closing : (ℕ → ℕ → ℕ) → Span → ℕ
span_closing w sp = pick (eqb sp.category 0) 0 (w (sp.first.0 + (sp.months - 1)) sp.category)

-- the ranges of what a span holds
pub record SpanBounds (sp : Span) : Type 0 where
  pub months_high : sp.months ≤ 1800
  pub first_low : 0 < sp.months → 2 ≤ sp.first.0
  pub first_high : sp.first.0 ≤ 3626
  pub before_high : sp.before.0 ≤ 30
  pub through_high : sp.through.0 ≤ 30
  pub category_high : sp.category ≤ 5
  pub closing_months : 0 < sp.category → 0 < sp.months

-- the number of the first of the checks 1 to 5 that fails, or 0
unfoldable pub exposure_check : Claim → ℕ → ℕ → ℕ
exposure_check c b e = window_check b e then claim_check c

-- the span of the claim's month records in the window from day b to day e, or the number refused
unfoldable pub span_in : Claim → ℕ → ℕ → Result Span ℕ
span_in c b e =
    pick (eqb (exposure_check c b e) 0) (Ok (span_of (month_records c b e))) (Err (exposure_check c b e))
