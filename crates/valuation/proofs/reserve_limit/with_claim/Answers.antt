-- `valuation::reserve_limit::with_claim` meets its contract: the claim's three numbers are read, the factor call checks them, and both factors are added to
-- their totals. Assumes nothing.
use mathlib.Core.Path.{sym, ◌∙◌}
use native.Mathlib.Omega.{arith}
use Rattle.basics.specs.declared.refusal.Refusal.TheVariants.{OpenClaims}
use Rattle.valuation.specs.Reserve.{reserve_of}
use Rattle.valuation.proofs.AnswerTests.{refusal-handed, factor-found}
use Rattle.valuation.proofs.ReserveLaws.{reserve-passed}
use Rattle.valuation.proofs.LimitAnswers.{open-refused, open-short, open-passed, claim-refused, claim-added}
use Rattle.valuation.proofs.reserve_limit.with_claim.Goals as goal

pub returns-in-Refused : goal.returns-in-Refused
returns-in-Refused c =
    claim-refused _ _ _ _ _ c.args.place _ c.requires.totals_value _
    (open-refused _ _ _ c.args.place _ (c.handed_on.ensures ∙ refusal-handed _ _ _ _ _ _ _ c.in-Refused.ensures))

pub returns-then-first-le24 : goal.returns-then-first-le24
returns-then-first-le24 c =
    claim-refused _ _ _ _ _ c.args.place _ c.requires.totals_value OpenClaims
    (open-short _ _ _ c.args.place (factor-found _ _ _ _ _ _ _ c.in-Factor.ensures).0 (omega arith))

pub invariant_of-checked : goal.invariant_of-checked
invariant_of-checked c =
    let p = reserve-passed _ _ _ _ _ (sym (factor-found _ _ _ _ _ _ _ c.in-Factor.ensures).0) in
    record { table_sound = p.0; first_bound = p.1; months_bound = p.2 }

pub returns-else-first-le24 : goal.returns-else-first-le24
unfolding reserve_of
returns-else-first-le24 c =
    let found = factor-found _ _ _ _ _ _ _ c.in-Factor.ensures in
    rw (found.1, c.after-replaced.ensures)
    (claim-added _ _ _ _ _ c.args.place _ c.requires.totals_value (open-passed _ _ _ c.args.place found.0 (omega arith)))
