-- `claim_months::sound_claim::category` meets its contract: a missing maximum is near no termination, and a known one by the days between.
-- Assumes nothing.
use Prim.Native.Nat.{ℕ}
use mathlib.Core.Path.{◌≡◌, refl, sym, ◌∙◌}
use mathlib.Core.Bool.{Bool, true, false, not, ◌&&◌}
use borrow.Author.Tests.{eq-eqb, ne_eqb}
use lib.Dec.{eqb}
use Rattle.std.specs.Prelude.{Option, None}
use Rattle.basics.specs.declared.Day.{Day}
use Rattle.basics.specs.Pick.{pick}
use Rattle.calendar.specs.Calendar.{day_number}
use Rattle.calendar.specs.DayAnswers.{known}
use Rattle.claim_months.specs.declared.Claim.{Claim}
use Rattle.claim_months.specs.Claim.{within_days, is_missing, termination_day, category}
use Rattle.claim_months.specs.design.Private.{maximum_of, near_by}
use Rattle.claim_months.proofs.sound_claim.category.Goals as goal

-- the category by the days that are known and by the code
by-days : (c : Claim) (t : Day) (m : Option Day) → t.0 ≡ termination_day c → m ≡ maximum_of c
    → category c ≡ pick (near_by t m) 4 (pick (eqb c.code 6) 1 c.code)
unfolding category
by-days c t m e h = rw (h, ← e) (of-maximum (is_missing c.maximum))
  where
    rest : ℕ
    rest = pick (eqb c.code 6) 1 c.code

    of-maximum : (z : Bool) → pick (not z && within_days 45 t.0 (day_number c.maximum)) 4 rest ≡ pick (near_by t (pick z None (known (day_number c.maximum)))) 4 rest
    of-maximum true = refl
    of-maximum false = refl

pub returns-then-near : goal.returns-then-near
returns-then-near c = rw (by-days c.args.claim c.args.termination c.args.maximum c.requires.termination_value c.requires.maximum_value, sym c.near.ensures ∙ c.if-near.true) refl

pub returns-then-claim-eq-CHANGE_OF_DEFINITION : goal.returns-then-claim-eq-CHANGE_OF_DEFINITION
returns-then-claim-eq-CHANGE_OF_DEFINITION c =
    let code = eq-eqb c.args.claim.code 6 c.if-claim-eq-CHANGE_OF_DEFINITION.true in
    rw (by-days c.args.claim c.args.termination c.args.maximum c.requires.termination_value c.requires.maximum_value, sym c.near.ensures ∙ c.if-near.false, code) refl

pub returns : goal.returns
returns c =
    let code = ne_eqb c.args.claim.code 6 c.if-claim-eq-CHANGE_OF_DEFINITION.false in
    rw (by-days c.args.claim c.args.termination c.args.maximum c.requires.termination_value c.requires.maximum_value, sym c.near.ensures ∙ c.if-near.false, code) refl
