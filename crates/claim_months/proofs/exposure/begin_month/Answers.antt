-- `claim_months::exposure::begin_month` meets its contract: f is BCD, where claim month 1 starts, or the window's first day.
-- Assumes nothing.
use Prim.Native.Nat.{ℕ}
use mathlib.Core.Path.{sym, ap₂, ◌∙◌}
use native.Mathlib.Omega.{arith}
use Rattle.claim_months.specs.declared.MonthDay.{MonthDay}
use Rattle.claim_months.specs.Exposure.{month_b}
use Rattle.claim_months.proofs.Months.{first-starts, next-starts, last-next}
use Rattle.claim_months.proofs.Spans.{B-none}
use Rattle.claim_months.proofs.Checked.{later-day, claim-sound, bcd-day-is}
use Rattle.claim_months.proofs.exposure.begin_month.Goals as goal

abbrev day : MonthDay → ℕ
day x = x.day.0

pub returns-then-first-claim : goal.returns-then-first-claim
returns-then-first-claim c =
    λ d s.
    let a = c.args in
    let ok = (claim-sound d _ s).bcd-date in
    let f = later-day a.claim.bcd a.first in
    let b = bcd-day-is d _ s in
    let m = first-starts d ok in
    let n = next-starts d ok 1 (omega arith) in
    let p = last-next d ok 1 (omega arith) in
    record {
      starts = omega arith;
      from = omega arith;
      to = omega arith;
      b_is = sym (B-none _ _ _ (omega arith));
    }

pub claim_month-month-requires : goal.claim_month-month-requires
claim_month-month-requires c =
    let p = c.requires in
    record { of_claim = p.of_claim; placed = p.placed; day_le_day = omega arith }

pub month_b-requires : goal.month_b-requires
month_b-requires c =
    let o = c.requires.of_claim in
    (c.claim_month-month.ensures _ o.stands).to

pub returns : goal.returns
returns c =
    λ d s.
    let a = c.args in
    let h = c.claim_month-month.ensures d s in
    let f = later-day a.claim.bcd a.first in
    record {
      starts = h.starts;
      from = omega (arith, h.from);
      to = omega (arith, h.to, h.ends);
      b_is = c.month_b.ensures ∙ ap₂ (month_b (day a.first)) h.starts h.ends;
    }
