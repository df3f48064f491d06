-- `claim_months::check::checked` meets its contract: a claim without its dates is refused 2.
-- Assumes nothing.
use Rattle.std.specs.Prelude.{ℕ, ◌≡◌, eqb, Ok, Err, Option, Some, None, ok_or}
use mathlib.Core.Path.{ap, ◌∙◌}
use Rattle.basics.specs.Pick.{pick}
use Rattle.basics.specs.Checks.{◌then◌}
use Rattle.basics.specs.Refused.{number_of, numbered}
use Rattle.basics.specs.declared.refusal.Refusal.{Refusal}
use Rattle.basics.specs.declared.refusal.Refusal.TheVariants.{Date}
use Rattle.basics.proofs.Tests.{tests}
use Rattle.claim_months.specs.declared.Claim.{Claim}
use Rattle.claim_months.specs.declared.ClaimDays.{ClaimDays}
use Rattle.claim_months.specs.Claim.{dates_sound, claim_check}
use Rattle.claim_months.specs.design.Private.{days_of, checked_of}
use Rattle.claim_months.proofs.Picked.{unpicked}
use Rattle.basics.proofs.Refused.{passed_on}
use Rattle.claim_months.proofs.check.checked.Goals as goal

no-days : (c : Claim) (o : Option ClaimDays) (e : Refusal) → o ≡ pick (dates_sound c) (Some (days_of c)) None → Err e ≡ ok_or o Date
    → Err (number_of e) ≡ pick (eqb (claim_check c) 0) (Ok (checked_of c)) (Err (claim_check c))
unfolding claim_check ◌then◌
no-days c None e h r =
    let p = unpicked (dates_sound c) h (λ q. let z : ◌≡◌ {A = ℕ} 0 1 = cc in omega tests) in
    let d : e ≡ Date = cc in rw (p.0, d)
no-days c (Some x) e h r = absurd (let z : ◌≡◌ {A = ℕ} 0 1 = cc in omega tests)

pub returns-in_err-days : goal.returns-in_err-days
returns-in_err-days c =
    ap numbered (passed_on _ _ c.from_residual.ensures) ∙ no-days _ _ _ c.claim_days.ensures c.in_err-days.ensures.value
