-- `small_company::moves_far` meets its contract: ten times a difference exceeds the old where the difference exceeds its tenth, rounded down.
-- Assumes nothing.
use mathlib.Core.Path.{◌≡◌}
use Rattle.basics.proofs.Tests.{tests, by}
use Rattle.small_company.specs.SmallCompany.{moves_far}
use Rattle.small_company.proofs.Moves.{far, not-far}
use Rattle.small_company.proofs.moves_far.Goals as goal

pub returns : goal.returns
returns c =
    let a = c.args in
    let d = c.abs_diff.ensures in
    by _ (λ t. t ≡ moves_far a.new a.old) (λ q. far a.new a.old (omega tests)) (λ q. not-far a.new a.old (omega tests))
