-- `valuation::wanted_count::reaches` meets its contract: T of group 1 is 1,000,000, and that of another group is what `t_of` ensures.
-- Assumes nothing.
use native.Mathlib.Omega.{arith}
use borrow.Author.Tests.{eq-eqb, ne_eqb}
use lib.IntN.{pos}
use Rattle.valuation.specs.Factor.{positive, factor_of}
use Rattle.valuation.specs.WantedCount.{reaches_wanted}
use Rattle.valuation.proofs.Laws.{credibility-high, margin-bounds, t-is}
use Rattle.valuation.proofs.wanted_count.reaches.Goals as goal

pub returns-then-group-eq1 : goal.returns-then-group-eq1
unfolding reaches_wanted
returns-then-group-eq1 c =
    let a = c.args in
    rw (t-is a.group a.count (pos a.expected), eq-eqb a.group 1 (omega arith))

pub t_of-requires : goal.t_of-requires
t_of-requires c =
    let a = c.args in
    omega (arith, credibility-high a.group (pos a.expected), margin-bounds a.group a.count)

pub returns : goal.returns
unfolding reaches_wanted factor_of positive
returns c =
    let a = c.args in
    rw (t-is a.group a.count (pos a.expected), ne_eqb a.group 1 c.if-group-eq1.false, c.t_of.ensures, c.margin_of.ensures, c.requires.0)
