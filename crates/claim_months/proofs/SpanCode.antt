-- What the code of a span rests on: where the two claim months are that hold the first and the last exposed day, and that five numbers
-- of them are the span of the month records.
-- Assumes nothing.
use Rattle.calendar.specs.Calendar.{last_day_number}
use Prim.Native.Nat.{ℕ, suc, ◌+◌, ◌-◌, ◌≤◌, ◌<◌}
use mathlib.Core.Path.{◌≡◌, sym, ap, ap₂, ◌∙◌}
use Rattle.basics.specs.Checks.{check}
use Rattle.basics.proofs.Checks.{check-passed, then-passed}
use Rattle.basics.proofs.Tests.{tests}
use Rattle.claim_months.specs.declared.BeginMonth.{BeginMonth}
use Rattle.claim_months.specs.declared.Claim.{Claim}
use Rattle.claim_months.specs.declared.ClaimMonth.{ClaimMonth}
use Rattle.claim_months.specs.declared.Span.{Span}
use Rattle.claim_months.specs.Claim.{first_duration, claim_check}
use Rattle.claim_months.specs.ClaimMonths.{month_first, month_last}
use Rattle.claim_months.specs.Windows.{window_sound, window_check}
use Rattle.claim_months.specs.Exposure.{exposed_from, exposed_to, month_u, closing_category, month_records}
use Rattle.claim_months.specs.design.Private.{HoldsDay, Begins}
use Rattle.claim_months.specs.Span.{span_of, exposure_check}
use Rattle.claim_months.proofs.Sound.{Sound}
use Rattle.claim_months.proofs.Months.{last-next, months-end}
use Rattle.claim_months.proofs.Parts.{WindowBounds, window-bounds}
use Rattle.claim_months.proofs.Spans.{span_run, Runs, runs-records, to-window, months-ordered}

-- what the checks 1 to 5 say
pub checks-passed : (c : Claim) (b e : ℕ) → exposure_check c b e ≡ 0 → WindowBounds b e × (claim_check c ≡ 0)
unfolding exposure_check window_check
checks-passed c b e h =
    let p = then-passed (check (window_sound b e) 1) (claim_check c) h in
    (window-bounds b e (check-passed (window_sound b e) 1 (omega tests) p.0), p.1)

-- claim months x and y of a sound claim hold the first exposed day f and the last one l
pub record SpanEnds (c : Claim) (b e f l : ℕ) (x : BeginMonth) (y : ClaimMonth) : Type 0 where
  pub sound : Sound c
  pub window : e ≤ last_day_number
  pub from : f ≡ exposed_from c b
  pub to : l ≡ exposed_to c e
  pub ordered : f ≤ l
  pub begin : Begins c b f x
  pub end : HoldsDay c l y

module _ (c : Claim) (b e f l : ℕ) (x : BeginMonth) (y : ClaimMonth) (r : SpanEnds c b e f l x y) where
  pub places-ordered : x.place ≤ y.place
  places-ordered =
      let s : month_first c (1 + x.place) ≤ f = omega (tests, r.begin.starts, r.begin.from) in
      let p : l ≤ month_last c (1 + y.place) = omega (tests, r.end.ends, r.end.to) in
      let o = months-ordered c r.sound f l (1 + x.place) (1 + y.place) r.ordered (omega tests) s p in
      omega tests

  -- claim month 1,801 starts after the window
  pub place-high : y.place < 1800
  place-high =
      let w = to-window c e in
      let n = months-end c r.sound.bcd-date in
      let p = last-next c r.sound.bcd-date 1800 (omega tests) in
      let s : month_first c (1 + y.place) ≤ l = omega (tests, r.end.starts, r.end.from) in
      let o = months-ordered c r.sound l last_day_number (1 + y.place) 1800 (omega (tests, r.to, r.window)) (omega tests) s (omega tests) in
      omega tests

  -- the run of the claim months from x to y
  run_of : Runs c b e (1 + x.place) (y.place - x.place)
  run_of =
      let o = places-ordered in
      let h = place-high in
      let k : 1 + x.place + (y.place - x.place) ≡ 1 + y.place = omega tests in
      record {
        low = omega tests;
        high = omega tests;
        starts = omega (tests, r.begin.starts, r.begin.from, r.from);
        holds-f = omega (tests, r.begin.to, r.from);
        reaches = rw k (omega (tests, r.end.starts, r.end.from, r.to));
        holds-l = rw k (omega (tests, r.end.ends, r.end.to, r.to));
      }

  -- five numbers of the two months: the first duration d, the months m, B, U and the category
  pub code-span : (d m u k : ℕ) → d ≡ first_duration c → m ≡ y.place - x.place + 1
      → u ≡ month_u c b e y.first.0 y.last.0 → k ≡ closing_category c b e y.first.0 y.last.0
      → ◌≡◌ {A = Span}
      (record {
        first = record { 0 = d + x.place };
        months = m;
        before = x.before;
        through = record { 0 = u };
        category = k;
      })
      (span_of (month_records c b e))
  code-span d m u k hd hm hu hk =
      let o = places-ordered in
      let a = y.place - x.place in
      let j : 1 + y.place ≡ 1 + x.place + a = omega tests in
      let h1 : d + x.place ≡ first_duration c + (1 + x.place - 1) = omega tests in
      let h2 : m ≡ suc a = omega tests in
      let s = r.end.starts ∙ ap (month_first c) j in
      let p = r.end.ends ∙ ap (month_last c) j in
      let h4 = hu ∙ ap₂ (month_u c b e) s p in
      let h5 = hk ∙ ap₂ (closing_category c b e) s p in
      (λ i.
      record {
        first = record { 0 = h1 i };
        months = h2 i;
        before = record { 0 = r.begin.b_is i };
        through = record { 0 = h4 i };
        category = h5 i;
      })
      ∙ sym
      (ap span_of (runs-records c r.sound b e (1 + x.place) a (omega (tests, r.from, r.to, r.ordered)) run_of)
      ∙ span_run c b e (1 + x.place) a)
