-- `claim_months::check::claim_days` meets its contract: each way out has the date that fails there, and the last has the four days.
-- Assumes nothing.
use mathlib.Core.Path.{◌≡◌, refl, ◌∙◌}
use mathlib.Core.Bool.{Bool, true, false, not, ◌||◌, and-false}
use Prim.Native.Nat.{ℕ}
use Rattle.basics.specs.declared.Day.{Day}
use Rattle.basics.specs.Pick.{pick}
use Rattle.basics.proofs.Tests.{tests}
use Rattle.calendar.specs.declared.Date.{Date}
use Rattle.calendar.specs.Calendar.{is_date, day_number}
use Rattle.calendar.specs.DayAnswers.{known, day_of}
use Rattle.claim_months.specs.declared.Claim.{Claim}
use Rattle.claim_months.specs.Claim.{is_missing, is_closed, dates_sound}
use Rattle.claim_months.specs.design.Private.{days_of}
use Rattle.claim_months.proofs.Picked.{picked, unpicked}
use Rattle.claim_months.proofs.Checked.{day-known, day-unknown}
use Rattle.claim_months.proofs.check.claim_days.Goals as goal
use Rattle.std.specs.Prelude.{Option, None, Some}

-- a date that is asked for is known or not; another has no day
if-known : (t : Bool) (d : Date) (x : Option Day) → Some x ≡ pick (not t || is_date d) (Some (pick t (known (day_number d)) None)) None
    → ((not t || is_date d) ≡ true) × (x ≡ pick t (known (day_number d)) None)
if-known t d x h = let p = picked (not t || is_date d) h (λ e. absurd (let z : ◌≡◌ {A = ℕ} 0 1 = cc in omega tests)) in (p.0, cc)

if-unknown : (t : Bool) (d : Date) → None ≡ pick (not t || is_date d) (Some (pick t (known (day_number d)) None)) None → (not t || is_date d) ≡ false
if-unknown t d h = (unpicked (not t || is_date d) h (λ e. absurd (let z : ◌≡◌ {A = ℕ} 0 1 = cc in omega tests))).0

-- the maximum is asked for unless it is missing
unless-missing : (m a : Bool) → (a || m) ≡ (not (not m) || a)
unless-missing true true = refl
unless-missing true false = refl
unless-missing false true = refl
unless-missing false false = refl

pick-not : (m : Bool) (x y : Option Day) → pick (not m) x y ≡ pick m y x
pick-not true x y = refl
pick-not false x y = refl

module _ (c : Claim) where
  none : dates_sound c ≡ false → None ≡ pick (dates_sound c) (Some (days_of c)) None
  none h = rw h

  no-disability : None ≡ day_of c.disability → dates_sound c ≡ false
  unfolding dates_sound
  no-disability h = simp (day-unknown c.disability h)

  no-bcd : None ≡ day_of c.bcd → dates_sound c ≡ false
  unfolding dates_sound
  no-bcd h = simp (day-unknown c.bcd h, and-false)

  no-termination : None ≡ pick (not (is_closed c) || is_date c.termination) (Some (pick (is_closed c) (known (day_number c.termination)) None)) None → dates_sound c ≡ false
  unfolding dates_sound
  no-termination h = simp (if-unknown (is_closed c) c.termination h, and-false)

  no-maximum : None ≡ pick (not (not (is_missing c.maximum)) || is_date c.maximum) (Some (pick (not (is_missing c.maximum)) (known (day_number c.maximum)) None)) None → dates_sound c ≡ false
  unfolding dates_sound
  no-maximum h =
      simp (unless-missing (is_missing c.maximum) (is_date c.maximum) ∙ if-unknown (not (is_missing c.maximum)) c.maximum h, and-false)

  all : (d b : Day) (t m : Option Day) → Some d ≡ day_of c.disability → Some b ≡ day_of c.bcd
      → Some t ≡ pick (not (is_closed c) || is_date c.termination) (Some (pick (is_closed c) (known (day_number c.termination)) None)) None
      → Some m ≡ pick (not (not (is_missing c.maximum)) || is_date c.maximum) (Some (pick (not (is_missing c.maximum)) (known (day_number c.maximum)) None)) None
      → Some (record { disability = d; bcd = b; termination = t; maximum = m }) ≡ pick (dates_sound c) (Some (days_of c)) None
  unfolding dates_sound
  all d b t m hd hb ht hm =
      let kd = day-known c.disability d hd in
      let kb = day-known c.bcd b hb in
      let kt = if-known (is_closed c) c.termination t ht in
      let km = if-known (not (is_missing c.maximum)) c.maximum m hm in
      let sm = unless-missing (is_missing c.maximum) (is_date c.maximum) ∙ km.0 in
      let em = km.1 ∙ pick-not (is_missing c.maximum) (known (day_number c.maximum)) None in
      rw (kd.0, kb.0, kt.0, sm) (λ i. Some (record { disability = kd.1 i; bcd = kb.1 i; termination = kt.1 i; maximum = em i }))

pub returns-in_err-day_number : goal.returns-in_err-day_number
returns-in_err-day_number c = c.from_residual.ensures ∙ none _ (no-disability _ c.in_err-day_number.ensures)

pub returns-in_err-day_number-2 : goal.returns-in_err-day_number-2
returns-in_err-day_number-2 c = c.from_residual-in_err-day_number-2.ensures ∙ none _ (no-bcd _ c.in_err-day_number-2.ensures)

pub returns-in_err-day_if : goal.returns-in_err-day_if
unfolding is_closed
returns-in_err-day_if c = c.from_residual-in_err-day_if.ensures ∙ none _ (no-termination _ c.in_err-day_if.ensures)

pub returns-in_err-day_if-2 : goal.returns-in_err-day_if-2
returns-in_err-day_if-2 c =
    c.from_residual-in_err-day_if-2.ensures ∙ none _ (no-maximum _ (rw c.is_missing.ensures at c.in_err-day_if-2.ensures))

pub returns : goal.returns
unfolding is_closed
returns c =
    all _ _ _ _ _ c.in_ok-day_number.ensures c.in_ok-day_number-2.ensures c.in_ok-day_if.ensures
    (rw c.is_missing.ensures at c.in_ok-day_if-2.ensures)
