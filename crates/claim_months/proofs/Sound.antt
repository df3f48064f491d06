-- What the checks 2 to 5 and 16 say of a claim that passes them.
-- Assumes nothing.
use Prim.Native.Nat.{◌≤◌}
use mathlib.Core.Path.{◌≡◌, refl, sym, ◌∙◌}
use mathlib.Core.Bool.{Bool, true, false, not, ◌&&◌, ◌||◌, false≢true}
use lib.Dec.{leb, eqb}
use borrow.Author.Tests.{leb-true}
use Rattle.basics.specs.Pick.{pick}
use Rattle.calendar.specs.Calendar.{is_date, day_number}
use Rattle.basics.specs.Checks.{check}
use Rattle.basics.proofs.Tests.{tests, by, and_left, and_right}
use Rattle.basics.proofs.Checks.{check-passed, then-passed}
use Rattle.claim_months.specs.declared.Claim.{Claim}
use Rattle.claim_months.specs.Claim.{is_missing, is_closed, bcd_day, termination_day, ep, dates_sound, status_sound, sequence_sound, benefit_sound, ep_sound, weight, claim_check}

pub record Sound (c : Claim) : Type 0 where
  pub disability-date : is_date c.disability ≡ true
  pub bcd-date : is_date c.bcd ≡ true
  pub termination-date : is_closed c ≡ true → is_date c.termination ≡ true
  pub maximum-date : is_missing c.maximum ≡ false → is_date c.maximum ≡ true
  pub disability-first : day_number c.disability ≤ bcd_day c
  pub bcd-first : is_closed c ≡ true → bcd_day c ≤ termination_day c
  pub termination-missing : is_closed c ≡ false → is_missing c.termination ≡ true
  pub code-low : is_closed c ≡ true → 1 ≤ c.code
  pub code-high : is_closed c ≡ true → c.code ≤ 6
  pub benefit-high : c.benefit ≤ 200
  pub ep-low : 15 ≤ ep c

-- what is asked of closed claims only
or-closed : (z a : Bool) → (not z || a) ≡ true → z ≡ true → a ≡ true
or-closed true a e q = e
or-closed false a e q = absurd (false≢true q)

closed-code : (z a b : Bool) → pick z a b ≡ true → z ≡ true → a ≡ true
closed-code true a b e q = e
closed-code false a b e q = absurd (false≢true q)

open_code : (z a b : Bool) → pick z a b ≡ true → z ≡ false → b ≡ true
open_code false a b e q = e
open_code true a b e q = absurd (false≢true (sym q))

or-missing : (a m : Bool) → (a || m) ≡ true → m ≡ false → a ≡ true
or-missing true m e q = refl
or-missing false m e q = absurd (false≢true (sym q ∙ e))

-- what check 2 says
pub record Dates (c : Claim) : Type 0 where
  pub disability-date : is_date c.disability ≡ true
  pub bcd-date : is_date c.bcd ≡ true
  pub termination-date : is_closed c ≡ true → is_date c.termination ≡ true
  pub maximum-date : is_missing c.maximum ≡ false → is_date c.maximum ≡ true

pub dates : (c : Claim) → dates_sound c ≡ true → Dates c
unfolding dates_sound
dates c e =
    let a = is_date c.disability in
    let b = is_date c.bcd in
    let t = not (is_closed c) || is_date c.termination in
    let m = is_date c.maximum || is_missing c.maximum in
    let e3 = and_left (a && b && t) m e in
    let e2 = and_left (a && b) t e3 in
    record {
      disability-date = and_left a b e2;
      bcd-date = and_right a b e2;
      termination-date = or-closed (is_closed c) (is_date c.termination) (and_right (a && b) t e3);
      maximum-date = or-missing (is_date c.maximum) (is_missing c.maximum) (and_right (a && b && t) m e);
    }

-- what check 4 says
pub record Sequence (c : Claim) : Type 0 where
  pub disability-first : day_number c.disability ≤ bcd_day c
  pub bcd-first : is_closed c ≡ true → bcd_day c ≤ termination_day c

pub sequence : (c : Claim) → sequence_sound c ≡ true → Sequence c
unfolding sequence_sound
sequence c e =
    let z = is_closed c in
    let first = leb (day_number c.disability) (bcd_day c) in
    let after = leb (bcd_day c) (termination_day c) in
    record {
      disability-first = leb-true _ _ (and_left first (not z || after) e);
      bcd-first = λ h. leb-true _ _ (or-closed z after (and_right first (not z || after) e) h);
    }

of-tests : (c : Claim) → dates_sound c ≡ true → status_sound c ≡ true → sequence_sound c ≡ true → benefit_sound c ≡ true → ep_sound c ≡ true → Sound c
unfolding status_sound benefit_sound ep_sound
of-tests c d s q b p =
    let z = is_closed c in
    let k = dates c d in
    let o = sequence c q in
    let low = leb 1 c.code in
    let high = leb c.code 6 in
    let open-sound = eqb c.code 0 && is_missing c.termination in
    let status = and_right (leb c.status 1) (pick z (low && high) open-sound) s in
    let codes = closed-code z (low && high) open-sound status in
    record {
      disability-date = k.disability-date;
      bcd-date = k.bcd-date;
      termination-date = k.termination-date;
      maximum-date = k.maximum-date;
      disability-first = o.disability-first;
      bcd-first = o.bcd-first;
      termination-missing = λ h. and_right (eqb c.code 0) (is_missing c.termination) (open_code z (low && high) open-sound status h);
      code-low = λ h. leb-true _ _ (and_left low high (codes h));
      code-high = λ h. leb-true _ _ (and_right low high (codes h));
      benefit-high = leb-true _ _ b;
      ep-low = leb-true _ _ p;
    }

pub sound : (c : Claim) → claim_check c ≡ 0 → Sound c
unfolding claim_check
sound c e =
    let p2 = then-passed (check (dates_sound c) 2) _ e in
    let p3 = then-passed (check (status_sound c) 3) _ p2.1 in
    let p4 = then-passed (check (sequence_sound c) 4) _ p3.1 in
    let p16 = then-passed (check (benefit_sound c) 16) _ p4.1 in
    of-tests c (check-passed (dates_sound c) 2 (omega tests) p2.0) (check-passed (status_sound c) 3 (omega tests) p3.0)
    (check-passed (sequence_sound c) 4 (omega tests) p4.0) (check-passed (benefit_sound c) 16 (omega tests) p16.0)
    (check-passed (ep_sound c) 5 (omega tests) p16.1)

-- a claim weighs at least 1, and one that passes its checks at most 200
pub weight-low : (c : Claim) → 1 ≤ weight c
unfolding weight
weight-low c = by (eqb c.benefit 0) (λ t. 1 ≤ pick t 1 c.benefit) (λ q. omega tests) (λ q. omega tests)

pub weight-high : (c : Claim) → claim_check c ≡ 0 → weight c ≤ 200
unfolding weight
weight-high c h =
    let b = (sound c h).benefit-high in
    by (eqb c.benefit 0) (λ t. pick t 1 c.benefit ≤ 200) (λ q. omega tests) (λ q. omega tests)
