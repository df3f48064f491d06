-- `claim_months::exposure::last_u` meets its contract: the month of a claim closed in the window is the closing month.
-- Assumes nothing.
use Prim.Native.Nat.{ℕ, ◌-◌}
use mathlib.Core.Path.{◌≡◌, sym, ◌∙◌}
use native.Mathlib.Omega.{arith}
use Rattle.std.specs.Prelude.{Option, None, Some}
use Rattle.claim_months.specs.declared.ClaimClosing.{ClaimClosing}
use Rattle.claim_months.specs.design.Private.{closing_of, u_at}
use Rattle.claim_months.proofs.exposure.last_u.Goals as goal

of-closing : (o : Option ClaimClosing) (x : ClaimClosing) (l s p : ℕ) → o ≡ Some x → closing_of x s p ≡ u_at o l s p
unfolding u_at
of-closing o x l s p h = rw h

unclosed : (o : Option ClaimClosing) (l s p : ℕ) → o ≡ None → 30 - (p - l) ≡ u_at o l s p
unfolding u_at
unclosed o l s p h = rw h

pub closing_u-requires : goal.closing_u-requires
closing_u-requires c =
    let t = c.requires.closed_to _ (sym c.in-Some.is) in
    record {
      first_le_day = omega (arith, t, c.requires.first_bound);
      day_le_last = omega (arith, t, c.requires.last_bound);
    }

pub returns-in-Some : goal.returns-in-Some
returns-in-Some c = c.closing_u.ensures ∙ of-closing _ _ _ _ _ c.in-Some.is

pub returns-in-None : goal.returns-in-None
returns-in-None c = unclosed _ _ _ _ c.in-None.is
