-- `claim_months::sound_claim::sound_claim` meets its contract: field by field.
-- Assumes nothing.
use mathlib.Core.Path.{◌≡◌, refl, ap, ◌∙◌}
use Rattle.calendar.proofs.Laws.{day-last}
use Rattle.claim_months.specs.declared.ClaimDays.{ClaimDays}
use Rattle.claim_months.specs.Claim.{is_closed, ep, first_duration}
use Rattle.claim_months.proofs.Sound.{Sound, sound}
use Rattle.claim_months.proofs.sound_claim.sound_claim.Goals as goal

pub month_index-requires : goal.month_index-requires
month_index-requires c =
    let ok : Sound c.args.dated.claim = sound _ c.requires in
    ok.bcd-date

pub starts_of-requires : goal.starts_of-requires
starts_of-requires c =
    let ok : Sound c.args.dated.claim = sound _ c.requires in
    let d = ap (λ (x : ClaimDays). x.bcd) c.args.dated.days_are in
    record { date_value = ok.bcd-date; bcd_value = λ i. record { day = d i; month = c.month_index.ensures i } }

pub first_duration-requires : goal.first_duration-requires
first_duration-requires c =
    let ok : Sound c.args.dated.claim = sound _ c.requires in
    rw c.args.dated.days_are (record { disability_le_bcd = ok.disability-first; bcd_le_last_day_number = day-last _ ok.bcd-date })

pub returns : goal.returns
unfolding is_closed first_duration ep
returns c =
    let d = ap (λ (x : ClaimDays). x.bcd) c.args.dated.days_are in
    let first : c.first_duration.result.0 ≡ first_duration c.args.dated.claim =
    c.first_duration.ensures ∙ rw c.args.dated.days_are refl in
    λ i.
    record {
      bcd = record { day = d i; month = c.month_index.ensures i };
      starts = c.starts_of.ensures i;
      first = record { 0 = first i };
      closing = c.closing.ensures i;
    }
