-- `claim_months::listing::list_months` meets its contract: a check that fails answers and leaves the list, and else the checked claim's listing.
-- Assumes nothing.
use Prim.Native.Nat.{ℕ, ◌*◌}
use mathlib.Core.Path.{◌≡◌, refl, ap, ◌∙◌, subst⁻¹}
use mathlib.Core.Bool.{Bool, true, false}
use mathlib.Core.List.{List, ◌++◌}
use native.Mathlib.Omega.{arith}
use borrow.Author.Tests.{ne_eqb}
use lib.Dec.{leb, eqb}
use lib.IntN.{ℤ}
use lib.ListN.{length, drop}
use Rattle.basics.specs.Pick.{pick}
use Rattle.basics.specs.Checks.{◌then◌}
use Rattle.calendar.specs.declared.Date.{Date}
use Rattle.claim_months.specs.declared.Claim.{Claim}
use Rattle.claim_months.specs.declared.MonthWindow.{MonthWindow}
use Rattle.claim_months.specs.declared.Window.{Window}
use Rattle.claim_months.specs.Claim.{claim_check}
use Rattle.claim_months.specs.Windows.{window_sound, dates_window, between}
use Rattle.claim_months.specs.Exposure.{MonthRecord}
use Rattle.claim_months.specs.Listing.{rows, listed_records, listing_check, listing_of, list_after}
use Rattle.claim_months.specs.design.Private.{with_months, SoundWindow, records_in, ListedAs}
use Rattle.claim_months.proofs.DateWindows.{window-known, window-refused, dates-sound}
use Rattle.claim_months.proofs.Checked.{window_placed, checked-known, checked_refused}
use Rattle.basics.specs.Refused.{numbered}
use Rattle.basics.proofs.Refused.{passed_on}
use Rattle.claim_months.proofs.listing.list_months.Goals as goal
use Rattle.std.specs.Prelude.{Err, Ok, Result}

module _ (b e : Date) (c : Claim) (old : List ℤ) where
  refused : (n : ℕ) → listing_check b e c (length old) ≡ n → (n ≡ 0 → ⊥)
      → (Err n ≡ listing_of b e c (length old)) × (old ≡ list_after b e c old)
  unfolding listing_of list_after
  refused n h z = (rw (h, ne_eqb n 0 z), rw (h, ne_eqb n 0 z))

  -- each check that fails first
  no-window : dates_window b e ≡ false → listing_check b e c (length old) ≡ 1
  unfolding listing_check ◌then◌
  no-window w = rw w

  module _ (w : dates_window b e ≡ true) where
    no-claim : (n : ℕ) → n ≡ claim_check c → (n ≡ 0 → ⊥) → listing_check b e c (length old) ≡ n
    unfolding listing_check ◌then◌
    no-claim n h z = rw (w, ← h, ne_eqb n 0 z)

    -- the room decides
    listed : (rs : List MonthRecord) (new : List ℤ) (r : Result ℕ ℕ) → rs ≡ listed_records b e c → claim_check c ≡ 0 → ListedAs rs old new r
        → (r ≡ listing_of b e c (length old)) × (new ≡ list_after b e c old)
    unfolding listing_check listing_of list_after ◌then◌
    listed rs new r h p l =
        rw (w, p, ← h)
        (l.answer ∙ answer (leb (6 * length rs) (length old)), l.list ∙ list (leb (6 * length rs) (length old)))
      where
        answer : (t : Bool) → pick {A = Result ℕ ℕ} t (Ok (length rs)) (Err 10) ≡ pick (eqb (pick t 0 10) 0) (Ok (length rs)) (Err (pick t 0 10))
        answer true = refl
        answer false = refl

        list : (t : Bool) → pick t (rows rs ++ drop (6 * length rs) old) old ≡ pick (eqb (pick t 0 10) 0) (rows rs ++ drop (6 * length rs) old) old
        list true = refl
        list false = refl

-- the records in a window of two dates
records-are : (b e : Date) (c : Claim) (x : MonthWindow) (w : Window) → x ≡ with_months w → w ≡ between b e → records_in c x ≡ listed_records b e c
unfolding listed_records
records-are b e c x w p q = rw (p, q)

-- the window of two dates is sound
sound-window : (b e : Date) (w : Window) → (dates_window b e ≡ true) × (w ≡ between b e) → window_sound w.first.0 w.last.0 ≡ true
sound-window b e w q = subst⁻¹ (λ (w : Window). window_sound w.first.0 w.last.0 ≡ true) q.1 (dates-sound _ _ q.0)

pub returns-in_err-days : goal.returns-in_err-days
returns-in_err-days c =
    let a = c.args in
    let n = window-refused _ _ _ c.in_err-days.ensures in
    let rest = refused a.first a.last a.claim a.list.now 1 (no-window _ _ _ a.list.now n.0) (λ z. omega arith) in
    record { value = ap numbered (passed_on _ _ c.from_residual.ensures) ∙ ap Err n.1 ∙ rest.0; list_after = rest.1 }

pub returns-in_err-sound : goal.returns-in_err-sound
returns-in_err-sound c =
    let a = c.args in
    let days = window-known _ _ _ c.in_ok-days.ensures in
    let r = checked_refused _ _ c.in_err-sound.ensures in
    let rest = refused a.first a.last a.claim a.list.now _ (no-claim _ _ _ a.list.now days.0 _ r.0 r.1) r.1 in
    record { value = ap numbered (passed_on _ _ c.from_residual-in_err-sound.ensures) ∙ rest.0; list_after = rest.1 }

pub with_months-requires : goal.with_months-requires
with_months-requires c = sound-window _ _ _ (window-known _ _ _ c.in_ok-days.ensures)

pub list_checked-requires : goal.list_checked-requires
list_checked-requires c =
    let sound = sound-window _ _ _ (window-known _ _ _ c.in_ok-days.ensures) in
    record {
      of_claim = record { claim = _; stands = checked-known _ _ c.in_ok-sound.ensures };
      sound_window = subst⁻¹ SoundWindow c.with_months.ensures (window_placed _ sound);
    }

pub returns : goal.returns
returns c =
    let a = c.args in
    let days = window-known _ _ _ c.in_ok-days.ensures in
    let s = checked-known _ _ c.in_ok-sound.ensures in
    let rest = listed a.first a.last a.claim a.list.now days.0 _ _ _ (records-are _ _ _ _ _ c.with_months.ensures days.1) s.passes (c.list_checked.ensures _ s) in
    record { value = rest.0; list_after = rest.1 }
