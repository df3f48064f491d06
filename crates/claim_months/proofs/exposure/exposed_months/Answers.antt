-- `claim_months::exposure::exposed_months` meets its contract: the records run from the claim month that holds f to the one that holds l.
-- Assumes nothing.
use Prim.Native.Nat.{ℕ, ◌≤◌}
use mathlib.Core.Path.{◌≡◌, sym, ap, ap₂, ◌∙◌, subst⁻¹}
use mathlib.Core.Bool.{◌&&◌}
use mathlib.Core.List.{[]}
use native.Mathlib.Omega.{arith}
use lib.Dec.{leb, ltb}
use borrow.Author.Tests.{leb-true}
use Rattle.std.specs.Prelude.{Option, None, Some}
use Rattle.basics.specs.Pick.{pick}
use Rattle.basics.proofs.Tests.{tests, by, and_right}
use Rattle.claim_months.specs.declared.BeginMonth.{BeginMonth}
use Rattle.claim_months.specs.declared.CheckedClaim.{CheckedClaim}
use Rattle.claim_months.specs.declared.Claim.{Claim}
use Rattle.claim_months.specs.declared.ClaimClosing.{ClaimClosing}
use Rattle.claim_months.specs.declared.ClaimMonth.{ClaimMonth}
use Rattle.claim_months.specs.declared.MonthDay.{MonthDay}
use Rattle.claim_months.specs.declared.MonthWindow.{MonthWindow}
use Rattle.claim_months.specs.declared.Span.{Span}
use Rattle.claim_months.specs.Exposure.{exposed_from, exposed_to}
use Rattle.claim_months.specs.Span.{span_of}
use Rattle.claim_months.specs.design.Private.{Placed, SoundWindow, Stands, from_of, closing_within, to_at, to_of, u_at, category_at, Begins, BeginsFor, HoldsFor}
use Rattle.claim_months.proofs.Picked.{picked}
use Rattle.claim_months.proofs.MonthRuns.{records-none}
use Rattle.claim_months.proofs.Spans.{first-duration}
use Rattle.claim_months.proofs.Checked.{later-day, claim-sound, first-is, from_is, to_is, to-placed, last-u-is, last-category-is}
use Rattle.claim_months.proofs.Rows.{months-are}
use Rattle.claim_months.proofs.SpanCode.{SpanEnds, places-ordered, place-high, code-span}
use Rattle.claim_months.proofs.exposure.exposed_months.Goals as goal

abbrev day : MonthDay → ℕ
day x = x.day.0

-- f and l are those of every claim that the value k stands for
module _ (k : CheckedClaim) (w : MonthWindow) (f l : MonthDay) (hf : f ≡ from_of k w.first) (hl : l ≡ to_of k w.last) (d : Claim) (s : Stands d k) where
  from : day f ≡ exposed_from d (day w.first)
  from = ap day hf ∙ from_is d k s w.first

  to : day l ≡ exposed_to d (day w.last)
  to = ap day hl ∙ to_is d k s w.last

  -- the two claim months
  ends : SoundWindow w → (x : BeginMonth) (y : ClaimMonth) → day f ≤ day l → BeginsFor k w.first x → HoldsFor k (day l) y
      → SpanEnds d (day w.first) (day w.last) (day f) (day l) x y
  ends h x y o b e =
      record {
        sound = claim-sound d k s;
        window = h.last_placed.high;
        from = from;
        to = to;
        ordered = o;
        begin = subst⁻¹ (λ (z : MonthDay). Begins d (day w.first) (day z) x) hf (b d s);
        end = e d s;
      }

pub returns-then-to-from : goal.returns-then-to-from
returns-then-to-from c =
    let k = c.args.claim in
    let w = c.args.window in
    let none = ap (λ (sp : Span). sp.months) c.no_months.ensures.span_value ∙ months-are [] in
    let f = c.exposed_from-from.result in
    let l = c.exposed_to-to.result in
    record {
      span_is = λ d s.
          c.no_months.ensures.span_value
          ∙ sym (ap span_of (records-none d (claim-sound d _ s) (day w.first) (day w.last)
          (omega (arith, from k w f l c.exposed_from-from.ensures c.exposed_to-to.ensures d s, to k w f l c.exposed_from-from.ensures c.exposed_to-to.ensures d s))));
      begin_is = λ h. absurd (omega arith);
    }

pub begin_month-begin-requires : goal.begin_month-begin-requires
begin_month-begin-requires c =
    let p = c.requires in
    record { of_claim = p.of_claim; placed = p.sound_window.first_placed }

pub claim_month-end-requires : goal.claim_month-end-requires
claim_month-end-requires c =
    let p = c.requires in
    let a = c.args in
    let k = to-placed _ _ p.of_claim.stands a.window.last p.sound_window.last_placed in
    let f = later-day a.claim.bcd a.window.first in
    record { of_claim = p.of_claim; placed = subst⁻¹ Placed c.exposed_to-to.ensures k; day_le_day = omega (arith, ap day c.exposed_from-from.ensures) }

pub overflow_add-span : goal.overflow_add-span
overflow_add-span c =
    let o = c.requires.of_claim in
    let r = ends c.args.claim c.args.window _ _ c.exposed_from-from.ensures c.exposed_to-to.ensures o.claim o.stands c.requires.sound_window _ _ c.if-to-from.false
    c.begin_month-begin.ensures c.claim_month-end.ensures in
    omega (arith, first-is _ _ o.stands, (first-duration _ r.sound).1, places-ordered _ _ _ _ _ _ _ r, place-high _ _ _ _ _ _ _ r)

pub overflow_sub-span : goal.overflow_sub-span
overflow_sub-span c =
    let o = c.requires.of_claim in
    let r = ends c.args.claim c.args.window _ _ c.exposed_from-from.ensures c.exposed_to-to.ensures o.claim o.stands c.requires.sound_window _ _ c.if-to-from.false
    c.begin_month-begin.ensures c.claim_month-end.ensures in
    places-ordered _ _ _ _ _ _ _ r

pub overflow_add-span-2 : goal.overflow_add-span-2
overflow_add-span-2 c =
    let o = c.requires.of_claim in
    let r = ends c.args.claim c.args.window _ _ c.exposed_from-from.ensures c.exposed_to-to.ensures o.claim o.stands c.requires.sound_window _ _ c.if-to-from.false
    c.begin_month-begin.ensures c.claim_month-end.ensures in
    omega (arith, place-high _ _ _ _ _ _ _ r)

-- a claim closed in the window is exposed to its termination
closed-to : (o : Option ClaimClosing) (b : ℕ) (last : MonthDay) (x : ClaimClosing) → Some x ≡ closing_within o b last.day.0 → x.termination.day.0 ≡ (to_at o last).day.0
unfolding closing_within to_at
closed-to None b last x h = absurd (let z : ◌≡◌ {A = ℕ} 0 1 = cc in omega tests)
closed-to (Some y) b last x h =
    let t = y.termination.day.0 in
    let p = picked (leb b t && leb t last.day.0) h (λ e. let z : ◌≡◌ {A = ℕ} 0 1 = cc in omega tests) in
    let l = leb-true t last.day.0 (and_right (leb b t) (leb t last.day.0) p.0) in
    let same : x ≡ y = cc in
    rw same (by (ltb t last.day.0) (λ q. t ≡ (pick q y.termination last).day.0) (λ u. omega tests) (λ u. omega tests))

pub last_u-requires : goal.last_u-requires
last_u-requires c =
    let o = c.requires.of_claim in
    let r = ends c.args.claim c.args.window _ _ c.exposed_from-from.ensures c.exposed_to-to.ensures o.claim o.stands c.requires.sound_window _ _ c.if-to-from.false
    c.begin_month-begin.ensures c.claim_month-end.ensures in
    record {
      closed_to = λ x h. closed-to c.args.claim.closing (day c.args.window.first) c.args.window.last x (h ∙ c.closing_in-closed.ensures) ∙ sym (ap day c.exposed_to-to.ensures);
      first_bound = omega (arith, r.end.from);
      last_bound = omega (arith, r.end.to);
    }

pub returns : goal.returns
returns c =
    let w = c.args.window in
    let y = c.claim_month-end.result in
    record {
      span_is = λ d s.
          let r = ends c.args.claim w _ _ c.exposed_from-from.ensures c.exposed_to-to.ensures d s c.requires.sound_window _ _ c.if-to-from.false
          c.begin_month-begin.ensures c.claim_month-end.ensures in
          code-span _ _ _ _ _ _ _ r _ _ _ _ (first-is d _ s) (omega arith)
          (c.last_u.ensures
          ∙ ap₂ (λ (o : Option ClaimClosing) (l : ℕ). u_at o l y.first.0 y.last.0) c.closing_in-closed.ensures (ap day c.exposed_to-to.ensures)
          ∙ last-u-is d _ s w y.first.0 y.last.0 (omega (arith, r.end.to, r.to)))
          (c.last_category.ensures ∙ ap category_at c.closing_in-closed.ensures ∙ last-category-is d _ s w y.first.0 y.last.0 (omega (arith, r.end.from, r.to)) (omega (arith, r.end.to, r.to)));
      begin_is = λ h. c.begin_month-begin.ensures;
    }
