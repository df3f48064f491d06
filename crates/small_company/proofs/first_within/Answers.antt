-- `small_company::first_within` meets its contract: from 1952 on the day two years before is a date's. Assumes nothing.
use mathlib.Core.Path.{sym, ◌∙◌}
use Rattle.basics.proofs.Tests.{tests}
use Rattle.small_company.proofs.Days.{first-of-all, two-years-there, two-years-day}
use Rattle.small_company.proofs.first_within.Goals as goal

pub returns-then-date-lt1952 : goal.returns-then-date-lt1952
returns-then-date-lt1952 c = first-of-all _ c.requires (omega tests)

pub unwrap-requires : goal.unwrap-requires
unwrap-requires c = rw (c.day_number.ensures, c.two_years_before.ensures) (two-years-there _ c.requires (omega tests))

pub returns : goal.returns
returns c =
    two-years-day _ c.requires (omega tests) _ (rw (sym c.two_years_before.ensures) (sym c.day_number.ensures ∙ c.unwrap.ensures))
