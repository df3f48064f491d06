-- What the code of a listing rests on: the records that it makes month by month from the span are the month records, and the list
-- that it writes row by row holds them.
-- Assumes nothing.
use Prim.Native.Nat.{ℕ, zero, suc, ◌+◌, ◌-◌, ◌*◌, ◌≤◌, ◌<◌, min, max}
use mathlib.Core.Path.{◌≡◌, refl, sym, ap, ap₂, ◌∙◌}
use mathlib.Core.Bool.{true}
use mathlib.Core.List.{List, [], ◌∷◌, ◌++◌, append-nil, append_assoc}
use lib.ListN.{length, drop, length-append, length-drop}
use lib.Seq.{sets, sets-eq, take_at, drop-append-add, drop-drop}
use lib.IntN.{ℤ}
use native.Mathlib.Nat.{add-zero, mul-zero}
use Rattle.calendar.specs.Calendar.{is_date, last_day_number}
use Rattle.calendar.proofs.Laws.{day-last, end-month, months-order}
use Rattle.basics.proofs.Tests.{tests}
use Rattle.claim_months.specs.declared.BeginMonth.{BeginMonth}
use Rattle.claim_months.specs.declared.Claim.{Claim}
use Rattle.claim_months.specs.declared.MonthDay.{MonthDay}
use Rattle.claim_months.specs.declared.Span.{Span}
use Rattle.claim_months.specs.Claim.{first_duration}
use Rattle.claim_months.specs.ClaimMonths.{bcd_month, start_in, month_first, month_last}
use Rattle.claim_months.specs.Exposure.{exposed_from, exposed_to, MonthRecord, month_record, month_records}
use Rattle.claim_months.specs.Span.{span_of}
use Rattle.claim_months.specs.Listing.{row, rows}
use Rattle.claim_months.specs.design.Private.{Begins, RowBounds, span_record}
use Rattle.claim_months.proofs.Sound.{Sound}
use Rattle.claim_months.proofs.Months.{start-low, starts-rise}
use Rattle.claim_months.proofs.Checked.{later-day}
use Rattle.claim_months.proofs.MonthRuns.{run}
use Rattle.claim_months.proofs.Spans.{run_span, span_run, Runs, by_runs, to-window, months-ordered, month_u_is, month_b_is, month-category, u_high, b_high, category_high, first-duration}

-- ---- the record of a span's month

-- claim month k starts in calendar month i
pub starts-in : (c : Claim) (k i : ℕ) → 1 ≤ k → i + 1 ≡ bcd_month c + k → start_in c i ≡ month_first c k
unfolding month_first
starts-in c k i l h = let e : i ≡ bcd_month c + (k - 1) = omega tests in ap (start_in c) e

-- one that starts by the last date starts in a month of the calendar
pub start-within : (c : Claim) → is_date c.bcd ≡ true → (i : ℕ) → start_in c i ≤ last_day_number → i < 25200
start-within c d i h =
    let l = start-low c d i in
    let y = end-month in
    months-order i 25200 (omega tests) (omega tests)

-- the records of a window are those of the claim months from the one with place n on, and the span sp says what each holds
pub record Follows (c : Claim) (b e n : ℕ) (sp : Span) (rs : List MonthRecord) : Type 0 where
  pub runs : rs ≡ run c b e (1 + n) sp.months
  pub each : (j : ℕ) → j < sp.months → (s : MonthDay) (t : ℕ) (f : MonthDay) (l : ℕ) → s.day.0 ≡ month_first c (1 + n + j)
      → t ≡ month_first c (1 + n + j + 1) → f.day.0 ≡ exposed_from c b → l ≡ exposed_to c e
      → span_record sp j s t f l ≡ month_record c b e (1 + n + j)
  pub bounds : (j : ℕ) → j < sp.months → RowBounds (month_record c b e (1 + n + j))
  pub starts : (j : ℕ) → j < sp.months → month_first c (1 + n + j) ≤ last_day_number

module _ (c : Claim) (ok : Sound c) (b e : ℕ) (be : b ≤ e) (h : e ≤ last_day_number) where
  none-follow : (n : ℕ) → Follows c b e n (span_of []) []
  unfolding run span_of
  none-follow n =
      record {
        runs = refl;
        each = λ j q s t f l hs ht hf hl. absurd (omega tests);
        bounds = λ j q. absurd (omega tests);
        starts = λ j q. absurd (omega tests);
      }

  module _ (n m : ℕ) (r : Runs c b e (1 + n) m) where
    starts-early : (j : ℕ) → j < suc m → month_first c (1 + n + j) ≤ exposed_to c e
    starts-early j q =
        let u = starts-rise c ok.bcd-date (1 + n + j) (m - j) (omega tests) in
        let e1 : 1 + n + j + (m - j) ≡ 1 + n + m = omega tests in
        let v : month_first c (1 + n + j) + 28 * (m - j) ≤ month_first c (1 + n + m) = rw e1 at u in
        omega (tests, r.reaches)

    month-record : (j : ℕ) → j < suc m → (s : MonthDay) (t : ℕ) (f : MonthDay) (l : ℕ) → s.day.0 ≡ month_first c (1 + n + j)
        → t ≡ month_first c (1 + n + j + 1) → f.day.0 ≡ exposed_from c b → l ≡ exposed_to c e
        → span_record (run_span c b e (1 + n) m) j s t f l ≡ month_record c b e (1 + n + j)
    unfolding span_record month_record month_last
    month-record j q s t f l hs ht hf hl =
        let d : first_duration c + (1 + n - 1) + j ≡ first_duration c + (1 + n + j - 1) = omega tests in
        let first = later-day s f ∙ ap₂ max hs hf in
        λ i.
        record {
          duration = d i;
          first = first i;
          last = min (ht i - 1) (hl i);
          U = sym (month_u_is c ok b e (1 + n) m r j q) i;
          B = sym (month_b_is c ok b e (1 + n) m r j) i;
          category = sym (month-category c ok b e (1 + n) m r j q) i;
        }

    month-bounds : (j : ℕ) → j < suc m → RowBounds (month_record c b e (1 + n + j))
    unfolding month_record exposed_from
    month-bounds j q =
        let s = starts-early j q in
        let t = to-window c e in
        let d = day-last c.bcd ok.bcd-date in
        let f = first-duration c ok in
        record {
          duration_high = omega (tests, r.high);
          first_high = omega tests;
          last_high = omega tests;
          u_high = u_high c b e (month_first c (1 + n + j)) (month_last c (1 + n + j));
          b_high = b_high b (month_first c (1 + n + j)) (month_last c (1 + n + j));
          category_high = category_high c ok b e (month_first c (1 + n + j)) (month_last c (1 + n + j));
        }

    month-starts : (j : ℕ) → j < suc m → month_first c (1 + n + j) ≤ last_day_number
    month-starts j q = omega (tests, starts-early j q, to-window c e)

    some-follow : Follows c b e n (span_of (run c b e (1 + n) (suc m))) (run c b e (1 + n) (suc m))
    some-follow =
        rw (span_run c b e (1 + n) m) (record { runs = refl; each = month-record; bounds = month-bounds; starts = month-starts })

  -- of the claim month that holds f
  pub follows : (x : BeginMonth) (f : ℕ) (sp : Span) → Begins c b f x → f ≡ exposed_from c b → sp ≡ span_of (month_records c b e)
      → Follows c b e x.place sp (month_records c b e)
  follows x f sp hold from span =
      let n = x.place in
      rw span
      (by_runs c ok b e h (λ (rs : List MonthRecord). Follows c b e n (span_of rs) rs) (none-follow n)
      (λ k m r.
      let s : month_first c (1 + n) ≤ f = omega (tests, hold.starts, hold.from) in
      let u = months-ordered c ok f f k (1 + n) (omega tests) (omega tests) (omega (tests, r.starts)) hold.to in
      let v = months-ordered c ok f f (1 + n) k (omega tests) r.low s (omega (tests, r.holds-f)) in
      let k1 : k ≡ 1 + n = omega tests in
      rw k1 (some-follow n m (rw k1 at r))))

-- ---- the list, row by row

row-length : (r : MonthRecord) → length (row r) ≡ 6
unfolding row
row-length r = refl

module _ (c : Claim) (b e : ℕ) where
  rows-length : (n k : ℕ) → length (rows (run c b e k n)) ≡ 6 * n
  unfolding rows run
  rows-length zero k = sym (mul-zero 6)
  rows-length (suc n) k =
      length-append (row (month_record c b e k)) (rows (run c b e (suc k) n))
      ∙ ap₂ (λ (x y : ℕ). x + y) (row-length (month_record c b e k)) (rows-length n (suc k))
      ∙ omega tests

  rows_next : (n k : ℕ) → rows (run c b e k (suc n)) ≡ rows (run c b e k n) ++ row (month_record c b e (k + n))
  unfolding rows run
  rows_next zero k = append-nil (row (month_record c b e k)) ∙ ap (λ (i : ℕ). row (month_record c b e i)) (sym (add-zero k))
  rows_next (suc n) k =
      let e1 : suc k + n ≡ k + suc n = omega tests in
      ap (λ (l : List ℤ). row (month_record c b e k) ++ l) (rows_next n (suc k))
      ∙ sym (append_assoc (row (month_record c b e k)) (rows (run c b e (suc k) n)) (row (month_record c b e (suc k + n))))
      ∙ ap (λ (i : ℕ). (row (month_record c b e k) ++ rows (run c b e (suc k) n)) ++ row (month_record c b e i)) e1

  -- the list after the rows of n months from claim month k on
  abbrev pub after : ℕ → List ℤ → ℕ → List ℤ
  after k old n = rows (run c b e k n) ++ drop (6 * n) old

  pub after_none : (k : ℕ) (old : List ℤ) → old ≡ after k old 0
  unfolding rows run
  after_none k old = ap (λ (i : ℕ). drop i old) (sym (mul-zero 6))

  pub after-length : (k : ℕ) (old : List ℤ) (n : ℕ) → 6 * n ≤ length old → length (after k old n) ≡ length old
  after-length k old n h =
      length-append (rows (run c b e k n)) (drop (6 * n) old)
      ∙ ap₂ (λ (x y : ℕ). x + y) (rows-length n k) (length-drop (6 * n) old)
      ∙ omega tests

  pub after_next : (k : ℕ) (old : List ℤ) (n : ℕ) → 6 * n + 6 ≤ length old
      → sets (after k old n) (6 * n) (row (month_record c b e (k + n))) ≡ after k old (n + 1)
  after_next k old n h =
      let p = rows (run c b e k n) in
      let r = row (month_record c b e (k + n)) in
      let l = row-length (month_record c b e (k + n)) in
      let m = after-length k old n (omega tests) in
      let e1 : n + 1 ≡ suc n = omega tests in
      let e2 : 6 * n + 6 ≡ 6 * (n + 1) = omega tests in
      sets-eq r (after k old n) (6 * n) (omega tests)
      ∙ ap₂ (λ (x y : List ℤ). x ++ r ++ y) (take_at p (drop (6 * n) old) (6 * n) (rows-length n k))
      (ap₂ (λ (x y : ℕ). drop (x + y) (after k old n)) (sym (rows-length n k)) l
      ∙ drop-append-add p (drop (6 * n) old) 6
      ∙ drop-drop 6 (6 * n) old
      ∙ ap (λ (i : ℕ). drop i old) e2)
      ∙ ap (λ (x : List ℤ). x ++ drop (6 * (n + 1)) old) (sym (rows_next n k) ∙ ap (λ (i : ℕ). rows (run c b e k i)) (sym e1))

-- a span counts its records
pub months-are : (rs : List MonthRecord) → (span_of rs).months ≡ length rs
unfolding span_of
months-are [] = refl
months-are (r ∷ rs) = refl
