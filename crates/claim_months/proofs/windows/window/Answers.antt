-- `claim_months::windows::window` meets its contract: each way out has the test that fails there.
-- Assumes nothing.
use mathlib.Core.Path.{◌≡◌, refl, sym, ap, ◌∙◌}
use mathlib.Core.Bool.{Bool, true, false, and-false}
use Rattle.basics.specs.declared.Day.{Day}
use Rattle.calendar.specs.declared.Date.{Date}
use Rattle.calendar.specs.DayAnswers.{day_of}
use Rattle.claim_months.specs.Windows.{window_sound, dates_window, window_in}
use Rattle.claim_months.proofs.Checked.{day-known, day-unknown}
use Rattle.claim_months.proofs.windows.window.Goals as goal
use Rattle.std.specs.Prelude.{Option, None, Some, Ok, Err, ok_or, ℕ}
use Rattle.basics.specs.Refused.{number_of, numbered}
use Rattle.basics.specs.declared.refusal.Refusal.{Refusal}
use Rattle.basics.specs.declared.refusal.Refusal.TheVariants.{Window}
use Rattle.basics.proofs.Tests.{tests}
use Rattle.basics.proofs.Refused.{passed_on}

-- where a date is not found
not_found : (o : Option Day) (e : Refusal) → Err e ≡ ok_or o Window → (None ≡ o) × (e ≡ Window)
not_found None e h = (refl, cc)
not_found (Some x) e h = absurd (let z : ◌≡◌ {A = ℕ} 0 1 = cc in omega tests)

-- where it is
found : (o : Option Day) (x : Day) → Ok x ≡ ok_or o Window → Some x ≡ o
found None x h = absurd (let z : ◌≡◌ {A = ℕ} 0 1 = cc in omega tests)
found (Some y) x h = cc

module _ (b e : Date) where
  no-first : None ≡ day_of b → Err 1 ≡ window_in b e
  unfolding window_in dates_window
  no-first h = simp (day-unknown b h)

  no_last : None ≡ day_of e → Err 1 ≡ window_in b e
  unfolding window_in dates_window
  no_last h = simp (day-unknown e h, and-false)

  module _ (x y : Day) (hx : Some x ≡ day_of b) (hy : Some y ≡ day_of e) (t : Bool) (s : t ≡ window_sound x.0 y.0) where
    unsound : t ≡ false → Err 1 ≡ window_in b e
    unfolding window_in dates_window
    unsound f = let dx = day-known b x hx in let dy = day-known e y hy in simp (dx.0, dy.0, sym (ap (λ (d : Day). d.0) dx.1), sym (ap (λ (d : Day). d.0) dy.1), sym s ∙ f)

    in_order : t ≡ true → Ok (record { first = x; last = y }) ≡ window_in b e
    unfolding window_in dates_window
    in_order f =
        let dx = day-known b x hx in
        let dy = day-known e y hy in
        simp (dx.0, dy.0, sym (ap (λ (d : Day). d.0) dx.1), sym (ap (λ (d : Day). d.0) dy.1), sym s ∙ f)

pub returns-in_err-ok_or : goal.returns-in_err-ok_or
returns-in_err-ok_or c =
    let n = not_found _ _ c.in_err-ok_or.ensures.value in
    ap numbered (passed_on _ _ c.from_residual.ensures) ∙ ap (λ r. Err (number_of r)) n.1 ∙ no-first _ _ (n.0 ∙ c.day_number.ensures)

pub returns-in_err-ok_or-2 : goal.returns-in_err-ok_or-2
returns-in_err-ok_or-2 c =
    let n = not_found _ _ c.in_err-ok_or-2.ensures.value in
    ap numbered (passed_on _ _ c.from_residual-in_err-ok_or-2.ensures) ∙ ap (λ r. Err (number_of r)) n.1 ∙ no_last _ _ (n.0 ∙ c.day_number-2.ensures)

pub returns-then-not-is_sound : goal.returns-then-not-is_sound
returns-then-not-is_sound c =
    unsound _ _ _ _ (found _ _ c.in_ok-ok_or.ensures.value ∙ c.day_number.ensures) (found _ _ c.in_ok-ok_or-2.ensures.value ∙ c.day_number-2.ensures)
    _ c.is_sound.ensures c.if-not-is_sound.true

pub returns : goal.returns
returns c =
    in_order _ _ _ _ (found _ _ c.in_ok-ok_or.ensures.value ∙ c.day_number.ensures) (found _ _ c.in_ok-ok_or-2.ensures.value ∙ c.day_number-2.ensures)
    _ c.is_sound.ensures c.if-not-is_sound.false
