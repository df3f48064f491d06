-- `claim_months::check::days_check` meets its contract: the checks go in their order, and the first that fails answers.
-- Assumes nothing.
use mathlib.Core.Path.{◌≡◌, refl, sym, ◌∙◌}
use mathlib.Core.Bool.{Bool, true, false, not, ◌&&◌, ◌||◌}
use Prim.Native.Nat.{◌≤◌, ◌-◌}
use native.Mathlib.Omega.{arith}
use borrow.Author.Tests.{le-leb, lt-leb}
use lib.Dec.{leb}
use Rattle.basics.specs.Pick.{pick}
use Rattle.basics.specs.Checks.{◌then◌}
use Rattle.calendar.specs.Calendar.{day_number}
use Rattle.calendar.specs.DayAnswers.{known}
use Rattle.claim_months.specs.declared.Claim.{Claim}
use Rattle.claim_months.specs.declared.ClaimDays.{ClaimDays}
use Rattle.claim_months.specs.Claim.{is_closed, bcd_day, termination_day, ep, status_sound, sequence_sound, benefit_sound, ep_sound, claim_check}
use Rattle.claim_months.specs.design.Private.{as_day, days_of, none_before}
use Rattle.claim_months.proofs.Sound.{sequence}
use Rattle.claim_months.proofs.check.days_check.Goals as goal
use Rattle.std.specs.Prelude.{None}

-- check 4 and EP of the claim's day numbers
module _ (c : Claim) (x : ClaimDays) (h : x ≡ days_of c) where
  sequence-is : (leb x.disability.0 x.bcd.0 && none_before x.bcd x.termination) ≡ sequence_sound c
  unfolding sequence_sound
  sequence-is = rw h (of-closed (is_closed c))
    where
      of-closed : (z : Bool) → (leb (day_number c.disability) (bcd_day c) && none_before (as_day (bcd_day c)) (pick z (known (termination_day c)) None)) ≡ (leb (day_number c.disability) (bcd_day c) && (not z || leb (bcd_day c) (termination_day c)))
      of-closed true = refl
      of-closed false = refl

  ep-is : x.bcd.0 - x.disability.0 ≡ ep c
  unfolding ep
  ep-is = rw h

  ordered : sequence_sound c ≡ true → x.disability.0 ≤ x.bcd.0
  ordered q = rw h (sequence c q).disability-first

pub returns-then-not-status_sound : goal.returns-then-not-status_sound
unfolding claim_check ◌then◌
returns-then-not-status_sound c = simp (c.args.dated.passes, sym c.status_sound.ensures ∙ c.if-not-status_sound.true)

pub returns-then-not-sequence_sound : goal.returns-then-not-sequence_sound
unfolding claim_check ◌then◌ is_closed
returns-then-not-sequence_sound c =
    let status : status_sound c.args.dated.claim ≡ true = sym c.status_sound.ensures ∙ c.if-not-status_sound.false in
    let sequence-at : c.sequence_sound.result ≡ sequence_sound c.args.dated.claim = c.sequence_sound.ensures ∙ sequence-is _ _ c.args.dated.days_are in
    simp (c.args.dated.passes, status, sym sequence-at ∙ c.if-not-sequence_sound.true)

pub returns-then-claim-gt-MOST_BENEFIT : goal.returns-then-claim-gt-MOST_BENEFIT
unfolding claim_check ◌then◌ benefit_sound is_closed
returns-then-claim-gt-MOST_BENEFIT c =
    let status : status_sound c.args.dated.claim ≡ true = sym c.status_sound.ensures ∙ c.if-not-status_sound.false in
    let sequence-at : c.sequence_sound.result ≡ sequence_sound c.args.dated.claim = c.sequence_sound.ensures ∙ sequence-is _ _ c.args.dated.days_are in
    let in-sequence : sequence_sound c.args.dated.claim ≡ true = sym sequence-at ∙ c.if-not-sequence_sound.false in
    simp (c.args.dated.passes, status, in-sequence, lt-leb c.args.dated.claim.benefit 200 (omega arith))

pub elimination-requires : goal.elimination-requires
unfolding is_closed
elimination-requires c =
    let sequence-at : c.sequence_sound.result ≡ sequence_sound c.args.dated.claim = c.sequence_sound.ensures ∙ sequence-is _ _ c.args.dated.days_are in
    let in-sequence : sequence_sound c.args.dated.claim ≡ true = sym sequence-at ∙ c.if-not-sequence_sound.false in
    ordered _ _ c.args.dated.days_are in-sequence

pub returns-then-elimination-lt15 : goal.returns-then-elimination-lt15
unfolding claim_check ◌then◌ benefit_sound ep_sound is_closed
returns-then-elimination-lt15 c =
    let status : status_sound c.args.dated.claim ≡ true = sym c.status_sound.ensures ∙ c.if-not-status_sound.false in
    let sequence-at : c.sequence_sound.result ≡ sequence_sound c.args.dated.claim = c.sequence_sound.ensures ∙ sequence-is _ _ c.args.dated.days_are in
    let in-sequence : sequence_sound c.args.dated.claim ≡ true = sym sequence-at ∙ c.if-not-sequence_sound.false in
    simp (c.args.dated.passes, status, in-sequence, le-leb c.args.dated.claim.benefit 200 (omega arith), lt-leb 15 (ep c.args.dated.claim) (omega (arith, c.elimination.ensures, ep-is c.args.dated.claim c.args.dated.days c.args.dated.days_are)))

pub returns : goal.returns
unfolding claim_check ◌then◌ benefit_sound ep_sound is_closed
returns c =
    let status : status_sound c.args.dated.claim ≡ true = sym c.status_sound.ensures ∙ c.if-not-status_sound.false in
    let sequence-at : c.sequence_sound.result ≡ sequence_sound c.args.dated.claim = c.sequence_sound.ensures ∙ sequence-is _ _ c.args.dated.days_are in
    let in-sequence : sequence_sound c.args.dated.claim ≡ true = sym sequence-at ∙ c.if-not-sequence_sound.false in
    simp (c.args.dated.passes, status, in-sequence, le-leb c.args.dated.claim.benefit 200 (omega arith), le-leb 15 (ep c.args.dated.claim) (omega (arith, c.elimination.ensures, ep-is c.args.dated.claim c.args.dated.days c.args.dated.days_are)))
