-- `date_of_parts` meets its contract: a part too large for its field is no date's. Assumes nothing.
use Prim.Native.Nat.{ℕ, ◌≤◌, ◌<◌}
use mathlib.Core.Path.{◌≡◌, refl, sym, ap, ◌∙◌}
use mathlib.Core.Bool.{Bool, true, false, and-false}
use native.Mathlib.Omega.{arith}
use borrow.Author.Tests.{lt-leb}
use Rattle.std.specs.Prelude.{Some, None, Result, Ok, Err, OkIff}
use Rattle.std.specs.Result.{result_ok}
use Rattle.std.specs.Bool.{then_some}
use Rattle.basics.specs.Pick.{pick}
use Rattle.calendar.specs.declared.Date.{Date}
use Rattle.calendar.specs.Calendar.{is_date, month_length}
use Rattle.calendar.proofs.Laws.{length_high}
use Rattle.ltd_load.specs.Words.{date_of_parts}
use Rattle.ltd_load.proofs.words.date_of_parts.Goals as goal

module _ {E : Type 0} (n bound : ℕ) where
  -- a conversion that failed, and one that gave the number
  failed : (m : Result ℕ E) → OkIff m (n < bound) n → result_ok m ≡ None → bound ≤ n
  failed (Ok k) h e = absurd (cc)
  failed (Err x) h e = omega (arith, h)

  same : (m : Result ℕ E) (k : ℕ) → OkIff m (n < bound) n → result_ok m ≡ Some k → k ≡ n
  same (Ok j) k h e = cc (e, h.1)
  same (Err x) k h e = absurd (cc)

module _ (y m d : ℕ) where
  no_year : 2099 < y → None ≡ date_of_parts y m d
  unfolding date_of_parts is_date
  no_year h = simp (lt-leb y 2099 h, and-false)

  no_month : 12 < m → None ≡ date_of_parts y m d
  unfolding date_of_parts is_date
  no_month h = simp (lt-leb m 12 h, and-false)

  no_day : 31 < d → None ≡ date_of_parts y m d
  unfolding date_of_parts is_date
  no_day h = simp (lt-leb d (month_length y m) (omega (arith, length_high y m)), and-false)

picked : (t : Bool) (x : Date) → then_some t x ≡ pick t (Some x) None
picked true x = refl
picked false x = refl

dated : (y m d k l n : ℕ) → k ≡ y → l ≡ m → n ≡ d → (t : Bool) → t ≡ is_date (record { year = k; month = l; day = n })
    → then_some t (record { year = k; month = l; day = n }) ≡ date_of_parts y m d
unfolding date_of_parts
dated y m d k l n p q r t e =
    let x : Date = record { year = k; month = l; day = n } in
    picked t x ∙ ap (λ (b : Bool). pick b (Some x) None) e ∙ (λ i. date_of_parts (p i) (q i) (r i))

pub returns-in_err-year : goal.returns-in_err-year
returns-in_err-year c =
    let s = c.args in
    let h = failed s.year 65536 _ c.try_from.ensures (sym c.ok.ensures.value ∙ c.in_err-year.was) in
    c.from_residual.ensures ∙ no_year s.year s.month s.day (omega (arith, h))

pub returns-in_err-month : goal.returns-in_err-month
returns-in_err-month c =
    let s = c.args in
    let h = failed s.month 256 _ c.try_from-2.ensures (sym c.ok-2.ensures.value ∙ c.in_err-month.was) in
    c.from_residual-in_err-month.ensures ∙ no_month s.year s.month s.day (omega (arith, h))

pub returns-in_err-day : goal.returns-in_err-day
returns-in_err-day c =
    let s = c.args in
    let h = failed s.day 256 _ c.try_from-3.ensures (sym c.ok-3.ensures.value ∙ c.in_err-day.was) in
    c.from_residual-in_err-day.ensures ∙ no_day s.year s.month s.day (omega (arith, h))

pub returns : goal.returns
returns c =
    let s = c.args in
    c.then_some.ensures
    ∙ dated s.year s.month s.day _ _ _ (same s.year 65536 _ _ c.try_from.ensures (sym c.ok.ensures.value ∙ c.in_ok-year.was))
    (same s.month 256 _ _ c.try_from-2.ensures (sym c.ok-2.ensures.value ∙ c.in_ok-month.was))
    (same s.day 256 _ _ c.try_from-3.ensures (sym c.ok-3.ensures.value ∙ c.in_ok-day.was)) _ c.is_date.ensures
