-- What every study that a call returns has in common: a call that passes its checks keeps the window, has room for one claim more, and leaves 80 sums.
-- Assumes nothing.
use Prim.Native.Nat.{ℕ}
use mathlib.Core.Path.{◌≡◌, refl}
use lib.Dec.{eqb}
use lib.IntN.{◌+ℤ◌, ◌-ℤ◌}
use borrow.Author.Tests.{eqb-true, ne_eqb}
use Rattle.basics.specs.Pick.{pick}
use Rattle.basics.proofs.Tests.{tests, by}
use Rattle.calendar.specs.declared.Date.{Date}
use Rattle.calendar.specs.Calendar.{day_number}
use Rattle.claim_months.proofs.DateWindows.{dates-sound, windowed}
use Rattle.claim_months.proofs.Parts.{window-bounds}
use Rattle.study.specs.declared.Study.{Study}
use Rattle.study.specs.Study.{fresh, opened_with, opened}
use Rattle.study.specs.design.PreparedAdding.{add_check_with, added_with}
use Rattle.study.specs.design.PreparedWithdrawing.{withdraw_check_with, withdrawn_with}
use Rattle.study.specs.Joining.{join_check, together, joined}
use Rattle.study.specs.Returned.{Returned, Returns, CallsReturn}
use Rattle.study.proofs.Algebra.{each-shaped, none-shaped}
use Rattle.study.proofs.LentAdding.{taken-passed}
use Rattle.study.proofs.Joins.{joins}
use Rattle.claim_months.specs.declared.Window.{Window}
use Rattle.std.specs.Prelude.{Result}

opened-returned : (b e : Date) → Returned (opened b e).study
unfolding opened opened_with fresh
opened-returned b e =
    windowed b e (λ (m : Result Window ℕ). Returned (opened_with m).study)
    (λ d.
    let w = window-bounds (day_number b) (day_number e) (dates-sound b e d) in
    record { first = omega (tests, w.ordered, w.last); last = w.last; taken = omega tests; sums = none-shaped })
    (λ d. record { first = omega tests; last = omega tests; taken = omega tests; sums = none-shaped })

-- the study of a call that passes, and the given one where it doesn't
returns : (n : ℕ) (t s : Study) → (n ≡ 0 → Returned s → Returned t) → Returns s (record { refused = n; study = pick (eqb n 0) t s })
returns n t s h =
    record {
      returned = λ r. by (eqb n 0) (λ y. Returned (pick y t s)) (λ q. h (eqb-true n 0 q) r) (λ q. r);
      as_given = λ z. rw (ne_eqb n 0 z) refl;
    }

pub calls-return : CallsReturn
unfolding added_with withdrawn_with joined together
calls-return =
    record {
      opening = opened-returned;
      adding = λ kind s c table.
          returns (add_check_with kind s c table) _ s
          (λ e r.
          let few = (taken-passed kind s c table e).few in
          record { first = r.first; last = r.last; taken = omega tests; sums = each-shaped ◌+ℤ◌ _ _ });
      withdrawing = λ kind s c table.
          returns (withdraw_check_with kind s c table) _ s
          (λ e r.
          let few = r.taken in
          record { first = r.first; last = r.last; taken = omega tests; sums = each-shaped ◌-ℤ◌ _ _ });
      joining = λ s t.
          returns (join_check s t) (together s t) s
          (λ e r. record { first = r.first; last = r.last; taken = (joins s t e).few; sums = each-shaped ◌+ℤ◌ _ _ });
    }
