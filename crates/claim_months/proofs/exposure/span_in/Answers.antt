-- `claim_months::exposure::span_in` meets its contract: a check that fails answers, and else the checked claim's span.
-- Assumes nothing.
use Prim.Native.Nat.{ℕ}
use mathlib.Core.Path.{◌≡◌, sym, ap, ◌∙◌, subst⁻¹}
use mathlib.Core.Bool.{true, false}
use borrow.Author.Tests.{ne_eqb}
use Rattle.basics.specs.Checks.{◌then◌}
use Rattle.claim_months.specs.declared.Claim.{Claim}
use Rattle.claim_months.specs.declared.MonthWindow.{MonthWindow}
use Rattle.claim_months.specs.declared.windows.WindowMonths.{WindowMonths}
use Rattle.claim_months.specs.Claim.{claim_check}
use Rattle.claim_months.specs.Windows.{window_sound, window_check}
use Rattle.claim_months.specs.Exposure.{month_records}
use Rattle.claim_months.specs.Span.{span_of, exposure_check, span_in}
use Rattle.claim_months.specs.design.Private.{with_months, SoundWindow, records_in}
use Rattle.basics.proofs.Tests.{tests}
use Rattle.claim_months.proofs.Picked.{picked, unpicked}
use Rattle.claim_months.proofs.Checked.{window_placed, checked-known, checked_refused}
use Rattle.basics.specs.Refused.{numbered}
use Rattle.basics.proofs.Refused.{passed_on}
use Rattle.claim_months.proofs.exposure.span_in.Goals as goal
use Rattle.std.specs.Prelude.{Some, None, Err, Ok}

module _ (c : Claim) (b e : ℕ) where
  no-window : window_sound b e ≡ false → Err 1 ≡ span_in c b e
  unfolding span_in exposure_check window_check ◌then◌
  no-window w = rw w

  module _ (w : window_sound b e ≡ true) where
    no-claim : (n : ℕ) → n ≡ claim_check c → (n ≡ 0 → ⊥) → Err n ≡ span_in c b e
    unfolding span_in exposure_check window_check ◌then◌
    no-claim n h z = rw (w, ← h, ne_eqb n 0 z)

    spanned : claim_check c ≡ 0 → span_in c b e ≡ Ok (span_of (month_records c b e))
    unfolding span_in exposure_check window_check ◌then◌
    spanned h = rw (w, h)

-- the window was looked at
module _ (w : WindowMonths) where
  none : w.months ≡ None → window_sound w.window.first.0 w.window.last.0 ≡ false
  none h = (unpicked (window_sound w.window.first.0 w.window.last.0) (sym h ∙ w.looked_at) (λ q. let z : ◌≡◌ {A = ℕ} 0 1 = cc in omega tests)).0

  known : (m : MonthWindow) → w.months ≡ Some m → (window_sound w.window.first.0 w.window.last.0 ≡ true) × (m ≡ with_months w.window)
  known m h =
      let p = picked (window_sound w.window.first.0 w.window.last.0) (sym h ∙ w.looked_at) (λ q. let z : ◌≡◌ {A = ℕ} 0 1 = cc in omega tests) in
      (p.0, cc)

pub returns-in_default : goal.returns-in_default
returns-in_default c = let w = c.args.window in no-window _ _ _ (none w c.in_default.is)

pub returns-in_err-sound : goal.returns-in_err-sound
returns-in_err-sound c =
    let w = c.args.window in
    let r = checked_refused _ _ c.in_err-sound.ensures in
    ap numbered (passed_on _ _ c.from_residual.ensures) ∙ no-claim _ _ _ (known w _ c.in-Some.is).0 _ r.0 r.1

pub exposed_months-requires-clause-sound_window : goal.exposed_months-requires-clause-sound_window
exposed_months-requires-clause-sound_window c =
    let k = known c.args.window _ c.in-Some.is in
    subst⁻¹ SoundWindow k.1 (window_placed _ k.0)

pub returns : goal.returns
returns c =
    let k = known c.args.window _ c.in-Some.is in
    let s = checked-known _ _ c.in_ok-sound.ensures in
    let d = c.args.claim in
    ap Ok (c.exposed_months.ensures.span_is _ s ∙ ap (λ (x : MonthWindow). span_of (records_in d x)) k.1)
    ∙ sym (spanned _ _ _ k.0 s.passes)
