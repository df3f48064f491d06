-- What `put_rows` lists, what its loop keeps true, and what follows of a turn of the loop.
-- Assumes nothing.
use Prim.Native.Nat.{ℕ, ◌+◌, ◌*◌, ◌≤◌, ◌<◌}
use mathlib.Core.Path.{◌≡◌, sym, ap, ap₂, ◌∙◌, subst⁻¹}
use mathlib.Core.List.{List, ◌++◌}
use native.Mathlib.Omega.{arith}
use lib.IntN.{ℤ}
use lib.ListN.{length, drop}
use lib.Seq.{sets}
use Rattle.basics.specs.declared.Day.{Day}
use Rattle.calendar.specs.Calendar.{last_day_number, first_month}
use Rattle.claim_months.specs.declared.CheckedClaim.{CheckedClaim}
use Rattle.claim_months.specs.declared.Claim.{Claim}
use Rattle.claim_months.specs.declared.ExposedMonths.{ExposedMonths}
use Rattle.claim_months.specs.declared.MonthDay.{MonthDay}
use Rattle.claim_months.specs.declared.MonthWindow.{MonthWindow}
use Rattle.claim_months.specs.declared.Span.{Span}
use Rattle.claim_months.specs.ClaimMonths.{bcd_month, start_in, month_first}
use Rattle.claim_months.specs.Exposure.{exposed_from, exposed_to, MonthRecord, month_record, month_records}
use Rattle.claim_months.specs.Listing.{row, rows}
use Rattle.claim_months.specs.Span.{SpanBounds}
use Rattle.claim_months.specs.design.Private.{Placed, SoundWindow, Stands, start_of, from_of, to_of, MonthsFor, RowBounds, span_record}
use Rattle.claim_months.proofs.Months.{bcd-low, next-starts}
use Rattle.claim_months.proofs.Spans.{span-bounds}
use Rattle.claim_months.proofs.Checked.{claim-sound, bcd-month-is, start_is, start-placed, from_is, to_is}
use Rattle.claim_months.proofs.Rows.{after, after_none, after_next, Follows, follows, starts-in, start-within}

abbrev day : MonthDay → ℕ
day x = x.day.0

-- what is listed: the value k stands for the claim d, the window is b..e, and f lies in the claim month with the place n, which starts on `start`
pub record Given (k : CheckedClaim) (sp : Span) (f : MonthDay) (l : Day) (start : MonthDay) (d : Claim) (b e n : ℕ) : Type 0 where
  pub stands : Stands d k
  pub follows : Follows d b e n sp (month_records d b e)
  pub from : f.day.0 ≡ exposed_from d b
  pub to : l.0 ≡ exposed_to d e
  pub first : start.day.0 ≡ month_first d (1 + n)
  pub month : start.month ≡ bcd_month d + n

-- the rows of j months stand in the list, and the next month starts on `start`
pub record Written (d : Claim) (b e n : ℕ) (old new : List ℤ) (start : MonthDay) (j : ℕ) : Type 0 where
  pub rows-stand : new ≡ after d b e (1 + n) old j
  pub first : start.day.0 ≡ month_first d (1 + n + j)
  pub month : start.month ≡ bcd_month d + n + j

-- what the loop keeps true
pub record Turn (k : CheckedClaim) (sp : Span) (f : MonthDay) (l : Day) (begin : MonthDay) (old new : List ℤ) (start : MonthDay) (j : ℕ) : Type 0 where
  pub within : j ≤ sp.months
  pub written : (d : Claim) (b e n : ℕ) → Given k sp f l begin d b e n → Written d b e n old new start j

-- before the loop, of every claim that the value stands for
pub given : (k : CheckedClaim) (w : MonthWindow) (m : ExposedMonths) (f l : MonthDay) → SoundWindow w → MonthsFor k w m → 0 < m.span.months
    → f ≡ from_of k w.first → l ≡ to_of k w.last → (d : Claim) → Stands d k
    → Given k m.span f l.day (record { day = m.begin.first; month = k.bcd.month + m.begin.place }) d (day w.first) (day w.last) m.begin.place
given k w m f l h p q hf hl d s =
    let x = p.begin_is q d s in
    record {
      stands = s;
      follows = follows d (claim-sound d k s) _ _ h.ordered h.last_placed.high _ _ _ x (from_is d k s w.first) (p.span_is d s);
      from = ap day hf ∙ from_is d k s w.first;
      to = ap day hl ∙ to_is d k s w.last;
      first = x.starts;
      month = omega (arith, bcd-month-is d k s);
    }

-- the ranges of the span
pub bounds : (k : CheckedClaim) (w : MonthWindow) (m : ExposedMonths) → SoundWindow w → MonthsFor k w m → (d : Claim) → Stands d k → SpanBounds m.span
bounds k w m h p d s = subst⁻¹ SpanBounds (p.span_is d s) (span-bounds d (claim-sound d k s) _ _ h.last_placed.high)

module _ (k : CheckedClaim) (sp : Span) (f : MonthDay) (l : Day) (begin : MonthDay) (d : Claim) (b e n : ℕ) (g : Given k sp f l begin d b e n) where
  -- the first month starts in a month of the calendar
  pub begin-within : 0 < sp.months → begin.month < 25200
  begin-within h =
      let s = starts-in d (1 + n) begin.month (omega arith) (omega (arith, g.month)) in
      let z : 1 + n + 0 ≡ 1 + n = omega arith in
      let t = rw z at (g.follows.starts 0 h) in
      start-within d (claim-sound d k g.stands).bcd-date begin.month (omega (arith, g.first))

  pub none-written : (old : List ℤ) → Written d b e n old old begin 0
  none-written old =
      let z : 1 + n ≡ 1 + n + 0 = omega arith in
      record {
        rows-stand = after_none d b e (1 + n) old;
        first = g.first ∙ ap (month_first d) z;
        month = omega (arith, g.month);
      }

  -- of a turn that begins with j months written
  module _ (old new : List ℤ) (start : MonthDay) (j : ℕ) (w : Written d b e n old new start j) where
    module _ (t : j < sp.months) where
      -- the day on which the turn's month starts, and its calendar month
      starts-at : day start ≡ start_in d start.month
      starts-at = w.first ∙ sym (starts-in d (1 + n + j) start.month (omega arith) (omega (arith, w.month)))

      start-high : day start ≤ last_day_number
      start-high = omega (arith, w.first, g.follows.starts j t)

      pub month-low : first_month ≤ start.month
      month-low = omega (arith, w.month, bcd-low d (claim-sound d k g.stands).bcd-date)

      pub month-high : start.month < 25200
      month-high = start-within d (claim-sound d k g.stands).bcd-date start.month (omega (arith, starts-at, start-high))

      pub placed : Placed start
      placed = start-placed d k g.stands start month-low starts-at start-high

      -- the next month starts on `next`
      module _ (next : ℕ) (hn : next ≡ start_of k (start.month + 1)) where
        pub next-is : next ≡ month_first d (1 + n + j + 1)
        next-is =
            let i = start.month + 1 in
            hn ∙ start_is d k g.stands i ∙ starts-in d (1 + n + j + 1) i (omega arith) (omega (arith, w.month))

        pub next-late : 1 ≤ next
        next-late = omega (arith, next-is, next-starts d (claim-sound d k g.stands).bcd-date (1 + n + j) (omega arith))

        pub record_is : (r : MonthRecord) → r ≡ span_record sp j start next f l.0 → r ≡ month_record d b e (1 + n + j)
        record_is r h = h ∙ g.follows.each j t start next f l.0 w.first next-is g.from g.to

        pub row-bounds : (r : MonthRecord) → r ≡ span_record sp j start next f l.0 → RowBounds r
        row-bounds r h = subst⁻¹ RowBounds (record_is r h) (g.follows.bounds j t)

        pub next-written : (r : MonthRecord) (put : List ℤ) (x : MonthDay) → r ≡ span_record sp j start next f l.0 → 6 * j + 6 ≤ length old
            → put ≡ sets new (6 * j) (row r) → day x ≡ next → x.month ≡ start.month + 1 → Written d b e n old put x (j + 1)
        next-written r put x h room hp hd hm =
            let z : 1 + n + j + 1 ≡ 1 + n + (j + 1) = omega arith in
            record {
              rows-stand = hp ∙ ap₂ (λ (x : List ℤ) (y : MonthRecord). sets x (6 * j) (row y)) w.rows-stand (record_is r h) ∙ after_next d b e (1 + n) old j room;
              first = hd ∙ next-is ∙ ap (month_first d) z;
              month = omega (arith, w.month);
            }

    -- after the loop
    pub all-written : j ≡ sp.months → sp.months ≡ length (month_records d b e)
        → new ≡ rows (month_records d b e) ++ drop (6 * length (month_records d b e)) old
    all-written h c =
        w.rows-stand
        ∙ ap (after d b e (1 + n) old) h
        ∙ ap₂ (λ (rs : List MonthRecord) (m : ℕ). rows rs ++ drop (6 * m) old) (sym g.follows.runs) c
