-- The ◆ figures of document 01 about claims and months of exposure: the proof of `ClaimFigures`.
-- A claim's records are found as a run of claim months by tests at its first and last month alone.
-- Assumes nothing.
use Prim.Native.Nat.{ℕ, ◌+◌}
use mathlib.Core.Path.{◌≡◌, refl, ap, ◌∙◌}
use mathlib.Core.Bool.{Bool, true, ◌&&◌, and-eq-true_iff}
use lib.Dec.{leb}
use lib.IntN.{pos}
use native.Mathlib.Nat.{add-zero}
use Rattle.calendar.specs.declared.Date.{Date}
use Rattle.calendar.specs.Calendar.{leap_year, month_length, is_date, month_index, index_length, days_before, month_start, day_number}
use Rattle.basics.specs.Checks.{◌then◌}
use Rattle.basics.proofs.Tests.{tests}
use Rattle.claim_months.specs.declared.Claim.{Claim}
use Rattle.claim_months.specs.declared.Span.{Span}
use Rattle.claim_months.specs.Claim.{is_missing, is_closed, ep, first_duration, category, dates_sound, status_sound, sequence_sound, benefit_sound, ep_sound, claim_check}
use Rattle.claim_months.specs.ClaimMonths.{bcd_month, days_to_month_end, start_in, month_first, month_last}
use Rattle.claim_months.specs.Windows.{window_sound, window_check}
use Rattle.claim_months.specs.Exposure.{closed_in, exposed_from, exposed_to, month_b, closing_u, month_u, closing_category, thirtieths}
use Rattle.claim_months.specs.Span.{span_of, span_u, span_b, span_thirtieths, span_weighted, exposure_check}
use Rattle.basics.specs.Series.{sum_to}
use Rattle.claim_months.specs.ClaimFigures.{Exposed, ClaimFigures}
use Rattle.claim_months.proofs.Sound.{sound}
use Rattle.claim_months.proofs.SpanCode.{checks-passed}
use Rattle.claim_months.proofs.MonthRuns.{run}
use Rattle.claim_months.proofs.Spans.{run_span, span_run, run-last, Runs, runs-records, month-thirtieths, span-weighted}

-- claim month k holds f, and claim month k + m holds l
abbrev holding : Claim → ℕ → ℕ → ℕ → ℕ → Bool
holding c b e k m =
    let f = exposed_from c b in
    let l = exposed_to c e in
    leb 1 k && leb (k + m) 1800 && leb f l && leb (month_first c k) f && leb f (month_last c k) && leb (month_first c (k + m)) l && leb l (month_last c (k + m))

-- so its records are those of claim months k to k + m, and their sums are the span's
exposed : (c : Claim) (first last : Date) (b e k m : ℕ) (sp : Span) → day_number first ≡ b → day_number last ≡ e → ep c ≡ 90
    → exposure_check c b e ≡ 0 → holding c b e k m ≡ true → run_span c b e k m ≡ sp
    → Exposed c first last (span_thirtieths sp 0) (span_thirtieths sp m) (span_weighted (λ d. pos 1) sp sp.months)
unfolding run
exposed c first last b e k m sp x y z q h g =
    let p = checks-passed c b e q in
    let ok = sound c p.1 in
    let w = p.0 in
    let t = simp and-eq-true_iff at h in
    let r : Runs c b e k m = omega tests in
    let rs = runs-records c ok b e k m (omega tests) r in
    let same = month-thirtieths c ok b e k m r in
    record {
      elimination = z;
      accepted = rw (x, y) q;
      first_record = rw (x, y, rs, ← g) (rw add-zero at (same 0 (omega tests)));
      last_record_is = rw (x, y, rs, ← g) (ap thirtieths (run-last c b e m k) ∙ same m (omega tests));
      total =
          rw (x, y)
          (span-weighted c ok b e w.last (λ d. pos 1)
          ∙ ap (λ (s : Span). span_weighted (λ d. pos 1) s s.months) (ap span_of rs ∙ span_run c b e k m ∙ g));
    }

-- a span: first duration, months, B of the first, U and category of the last
abbrev span : ℕ → ℕ → ℕ → ℕ → ℕ → Span
span first months before through category =
    record { first = record { 0 = first }; months = months; before = record { 0 = before }; through = record { 0 = through }; category = category }

pub claim-figures : ClaimFigures
unfolding is_missing is_closed ep first_duration category dates_sound status_sound sequence_sound benefit_sound ep_sound claim_check leap_year month_length is_date month_index index_length days_before month_start day_number bcd_month days_to_month_end start_in month_first month_last window_sound window_check ◌then◌ closed_in exposed_from exposed_to month_b closing_u month_u closing_category span_u span_b span_thirtieths span_weighted exposure_check sum_to
claim-figures =
    record {
      leap_day = refl;
      leap_day_accepted = (refl, refl, refl, refl);
      no_leap_day = (refl, refl, refl, refl);
      start_2 = refl;
      start_3 = refl;
      start_4 = refl;
      ep_14 = (refl, refl);
      ep_15 = (refl, refl, refl);
      ep_44 = (refl, refl, refl);
      ep_45 = (refl, refl, refl);
      ep_90 = (refl, refl, refl);
      ep_180 = (refl, refl, refl);
      january_open = exposed _ _ _ 21550 24836 12 108 (span 15 109 21 21 0) refl refl refl refl refl refl;
      january_to_20 = exposed _ _ _ 21550 24836 12 41 (span 15 42 21 11 3) refl refl refl refl refl refl;
      january_to_29 = exposed _ _ _ 21550 24836 12 39 (span 15 40 21 19 3) refl refl refl refl refl refl;
      june_open = exposed _ _ _ 21550 24836 7 108 (span 10 109 2 2 0) refl refl refl refl refl refl;
      seven = exposed _ _ _ 21550 24836 1 0 (span 4 1 0 7 3) refl refl refl refl refl refl;
      cut_eight = exposed _ _ _ 21550 22325 1 0 (span 4 1 0 8 0) refl refl refl refl refl refl;
      cut_minus_one = exposed _ _ _ 22326 24836 1 0 (span 4 1 8 7 3) refl refl refl refl refl refl;
      days_45 = (refl, refl, refl);
      days_46 = (refl, refl, refl);
    }
