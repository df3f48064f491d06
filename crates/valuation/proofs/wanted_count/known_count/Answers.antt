-- `valuation::wanted_count::known_count` meets its contract: a bad group is refused, and else where the search ended decides. Assumes nothing.
use mathlib.Core.Path.{◌≡◌, sym, ◌∙◌}
use mathlib.Core.Bool.{true}
use native.Mathlib.Omega.{arith}
use Rattle.valuation.specs.WantedCount.{good_group, wanted_in}
use Rattle.valuation.proofs.WantedLaws.{over, under}
use Rattle.valuation.proofs.wanted_count.known_count.Goals as goal

pub returns-then-not-is_group : goal.returns-then-not-is_group
unfolding wanted_in
returns-then-not-is_group c = simp (sym c.is_group.ensures ∙ c.if-not-is_group.true)

pub returns-then-count-from : goal.returns-then-count-from
returns-then-count-from c =
    let good : good_group c.args.group ≡ true = sym c.is_group.ensures ∙ c.if-not-is_group.false in
    over _ _ _ good c.first_reaching-count.result c.first_reaching-count.ensures (omega arith)

pub returns : goal.returns
returns c =
    let good : good_group c.args.group ≡ true = sym c.is_group.ensures ∙ c.if-not-is_group.false in
    under _ _ _ good c.first_reaching-count.result c.first_reaching-count.ensures (omega arith)
