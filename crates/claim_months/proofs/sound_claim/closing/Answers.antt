-- `claim_months::sound_claim::closing` meets its contract: field by field of a closed claim.
-- Assumes nothing.
use mathlib.Core.Path.{◌≡◌, sym, ap, ◌∙◌}
use mathlib.Core.Bool.{true}
use Prim.Native.Nat.{ℕ}
use lib.Dec.{leb}
use Rattle.std.specs.Prelude.{Some}
use Rattle.basics.specs.declared.Day.{Day}
use Rattle.basics.proofs.Tests.{tests}
use Rattle.claim_months.specs.declared.Claim.{Claim}
use Rattle.claim_months.specs.declared.ClaimDays.{ClaimDays}
use Rattle.claim_months.specs.Claim.{is_closed, termination_day}
use Rattle.claim_months.specs.design.Private.{as_day, days_of}
use Rattle.claim_months.proofs.Picked.{picked}
use Rattle.claim_months.proofs.Sound.{sound}
use Rattle.claim_months.proofs.sound_claim.closing.Goals as goal

-- a claim with the day of a termination is closed, on that day
closed : (c : Claim) (x : ClaimDays) (d : Day) → x ≡ days_of c → x.termination ≡ Some d → (is_closed c ≡ true) × (d ≡ as_day (termination_day c))
closed c x d e h =
    let p = picked (is_closed c) (sym h ∙ ap (λ (y : ClaimDays). y.termination) e) (λ n. absurd (let z : ◌≡◌ {A = ℕ} 0 1 = cc in omega tests)) in
    (p.0, cc)

pub month_index-requires : goal.month_index-requires
month_index-requires c =
    (sound _ c.requires).termination-date (closed _ _ _ c.args.dated.days_are c.in_ok-day.was).0

pub category-requires : goal.category-requires
category-requires c =
    let d = closed _ _ _ c.args.dated.days_are c.in_ok-day.was in
    record { termination_value = ap (λ (x : Day). x.0) d.1; maximum_value = ap (λ (x : ClaimDays). x.maximum) c.args.dated.days_are }

pub returns : goal.returns
returns c =
    let d = closed _ _ _ c.args.dated.days_are c.in_ok-day.was in
    rw d.0
    (λ i.
    Some (record {
      termination = record { day = d.1 i; month = c.month_index.ensures i };
      late = leb 27 c.args.dated.claim.termination.day;
      category = c.category.ensures i;
    }))
