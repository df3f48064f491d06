-- Adding a sound claim's span is adding its month records.
-- Assumes nothing.
use Prim.Native.Nat.{ℕ, ◌+◌, ◌*◌, ◌≤◌}
use mathlib.Core.Path.{◌≡◌, refl, sym, ap, ◌∙◌}
use mathlib.Core.Bool.{Bool}
use mathlib.Core.List.{List}
use lib.Dec.{eqb}
use lib.IntN.{ℤ, pos, ◌*ℤ◌}
use borrow.Author.Tests.{ne_eqb}
use Rattle.basics.specs.Pick.{pick}
use Rattle.basics.specs.Checks.{◌then◌}
use Rattle.basics.proofs.Tests.{by}
use Rattle.basics.proofs.Checks.{then-passed, then_next, then-fails, then-assoc}
use Rattle.basics.proofs.Tables.{list-table}
use Rattle.calendar.specs.Calendar.{last_day_number}
use Rattle.claim_months.specs.declared.Claim.{Claim}
use Rattle.claim_months.specs.declared.Span.{Span}
use Rattle.claim_months.specs.Claim.{claim_check, weight}
use Rattle.claim_months.specs.Windows.{window_check}
use Rattle.claim_months.specs.Exposure.{MonthRecord, month_records}
use Rattle.claim_months.specs.Span.{span_of, span_weighted, span_closing, exposure_check, span_in}
use Rattle.claim_months.proofs.Sound.{Sound, weight-high}
use Rattle.claim_months.proofs.Spans.{span-weighted, span-closings}
use Rattle.claim_months.proofs.SpanAnswers.{exposure-checks, exposed, spanned, span-refused}
use Rattle.rates.specs.declared.Kind.{Kind}
use Rattle.study.specs.declared.Study.{Study}
use Rattle.study.specs.Answers.{Answer}
use Rattle.study.specs.Sums.{group_at, column_at, times_at}
use Rattle.study.specs.Study.{count_in_group, group_weight, exposure, closing_count, expected, figure, record_sums}
use Rattle.study.specs.design.PreparedAdding.{share_with, lent_study}
use Rattle.study.specs.design.LentAdding.{guarded_plus, add_check_told, added_to_lent}
use Rattle.study.specs.design.Private.{column_rate, months_figure, closing_figure, share_by, span_figure, span_share, span_number, span_sums}
use Rattle.study.proofs.Places.{by_column}
use Rattle.study.proofs.Capacity.{records-at, records-shaped}
use Rattle.std.specs.Prelude.{Err, Ok}

abbrev pub answer : ℕ → Study → Answer
answer n s = record { refused = n; study = s }

module _ (c : Claim) (ok : Sound c) (b e : ℕ) (h : e ≤ last_day_number) where
  abbrev records : List MonthRecord
  records = month_records c b e

  abbrev sp : Span
  sp = span_of records

  span-figure : (recovery death : ℕ → ℤ) (g column : ℕ) → span_figure recovery death sp g column ≡ figure recovery death g column records
  unfolding span_figure closing_figure months_figure column_rate figure exposure closing_count expected
  span-figure recovery death g column =
      let months : (ℕ → ℤ) → ℤ = λ w. span_weighted (group_weight g w) sp sp.months in
      let closing : ℤ = pos (span_closing (λ d y. count_in_group g d * pick (eqb y column) 1 0) sp) in
      by_column column
      (λ s t u. pick s (pick s closing (pos 0)) (pick s (pos 0) (months (pick t (λ d. pos 1) (pick u recovery death))))
      ≡ pick s (pos (closing_count g column records)) (pick t (exposure g records) (pick u (expected recovery g records) (expected death g records))))
      (λ _ _. sym (ap pos (span-closings c ok b e h (λ d y. count_in_group g d * pick (eqb y column) 1 0))))
      (λ _. sym (span-weighted c ok b e h (group_weight g (λ d. pos 1))))
      (sym (span-weighted c ok b e h (group_weight g recovery))) (sym (span-weighted c ok b e h (group_weight g death)))

  span-records : (recovery death : ℕ → ℤ) (n : ℕ) → share_by n (span_figure recovery death sp) ≡ record_sums recovery death n records
  unfolding share_by
  span-records recovery death n =
      sym (list-table 80 _ (pos 0) (record_sums recovery death n records) (records-shaped recovery death n records)
      (λ k l.
      records-at recovery death n records k l ∙ ap (λ (z : ℤ). pos (times_at n k) *ℤ z) (sym (span-figure recovery death (group_at k) (column_at k)))))

-- a claim that has a span passed its own checks, and weighs at most 200
pub spanned-weight : (c : Claim) (b e : ℕ) (sp : Span) → Ok sp ≡ span_in c b e → weight c ≤ 200
spanned-weight c b e sp m = weight-high c (then-passed (window_check b e) (claim_check c) (sym (exposure-checks c b e) ∙ (spanned c b e sp m).0)).1

module _ (room : Bool) (kind : Kind) (s : Study) (c : Claim) (rates : List ℕ) where
  abbrev own : ℕ
  own = exposure_check c s.window.first.0 s.window.last.0

  abbrev number : ℕ
  number = span_number s.taken room kind rates c.cell

  -- the checks 1 to 5 and 16, then 6 to 9
  checks : add_check_told room kind s c rates ≡ (own then number)
  unfolding add_check_told span_number
  checks =
      let b = s.window.first.0 in
      let e = s.window.last.0 in
      sym (ap (λ (n : ℕ). n then number) (exposure-checks c b e) ∙ then-assoc (window_check b e) (claim_check c) number)

  -- adding a claim that passes its own checks is adding its span
  module _ (sp : Span) (m : Ok sp ≡ span_in c s.window.first.0 s.window.last.0) where
    checks-are : add_check_told room kind s c rates ≡ number
    checks-are = checks ∙ then_next own number (spanned c s.window.first.0 s.window.last.0 sp m).0

    pub spanned-number : (added_to_lent room kind rates c s).refused ≡ number
    unfolding added_to_lent
    spanned-number = checks-are

    share-is : span_share kind rates c.cell (weight c) sp ≡ share_with kind s.window rates c
    unfolding span_share share_with
    share-is =
        let b = s.window.first.0 in
        let e = s.window.last.0 in
        let x = spanned c b e sp m in
        let y = exposed c b e x.0 in
        rw x.1 (span-records c y.0 b e y.1 _ _ (weight c))

    pub spanned-sums : (added_to_lent room kind rates c s).study.sums ≡ span_sums s.taken room s.sums kind rates c.cell sp (weight c)
    unfolding added_to_lent span_sums
    spanned-sums =
        let after : List ℤ = guarded_plus s.sums (span_share kind rates c.cell (weight c) sp) in
        rw (checks-are, ← share-is)
        (by (eqb number 0) (λ t. (pick t (lent_study s.window (s.taken + 1) after) s).sums ≡ pick t after s.sums) (λ q. refl) (λ q. refl))

  -- a claim that fails one of its own checks is refused
  module _ (n : ℕ) (m : Err n ≡ span_in c s.window.first.0 s.window.last.0) where
    refused-is : add_check_told room kind s c rates ≡ n
    refused-is =
        let x = span-refused c s.window.first.0 s.window.last.0 n m in
        checks ∙ then-fails own number x.0 ∙ sym x.1

    pub refused-number : (added_to_lent room kind rates c s).refused ≡ n
    unfolding added_to_lent
    refused-number = refused-is

    pub refused-study : (added_to_lent room kind rates c s).study ≡ s
    unfolding added_to_lent
    refused-study =
        let x = span-refused c s.window.first.0 s.window.last.0 n m in
        rw (refused-is, ne_eqb n 0 (λ z. x.0 (sym x.1 ∙ z)))
