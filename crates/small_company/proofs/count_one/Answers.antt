-- `small_company::count_one` meets its contract: status and day of disability decide where the claim counts. Assumes nothing.
use mathlib.Core.Path.{sym, ◌∙◌}
use mathlib.Core.Logic.{⊎_elim}
use Rattle.basics.proofs.Tests.{tests}
use Rattle.small_company.proofs.Days.{day-there, its-day}
use Rattle.small_company.proofs.Counting.{closed, later, before, within}
use Rattle.small_company.proofs.count_one.Goals as goal

pub unwrap-disabled-requires : goal.unwrap-disabled-requires
unwrap-disabled-requires c = rw c.day_number.ensures (day-there _ c.requires.disability_value)

pub returns-then-claim-ne0 : goal.returns-then-claim-ne0
returns-then-claim-ne0 c =
    let day = its-day _ c.requires.disability_value _ (sym c.day_number.ensures ∙ c.unwrap-disabled.ensures) in
    ⊎_elim (λ f. closed _ _ _ _ f) (λ p. later _ _ _ _ _ day p.1) c.then-claim-ne0.either

pub returns-then-disabled-first : goal.returns-then-disabled-first
returns-then-disabled-first c =
    let day = its-day _ c.requires.disability_value _ (sym c.day_number.ensures ∙ c.unwrap-disabled.ensures) in
    before _ _ _ _ _ day (omega tests) (omega tests) (omega tests)

pub returns : goal.returns
returns c =
    let day = its-day _ c.requires.disability_value _ (sym c.day_number.ensures ∙ c.unwrap-disabled.ensures) in
    within _ _ _ _ _ day (omega tests) (omega tests) (omega tests)
