-- `valuation::factor::factors_of` meets its contract: what its callees ensure, put together.
-- Assumes nothing.
use native.Mathlib.Omega.{arith}
use borrow.Author.Tests.{ne_eqb}
use lib.IntN.{pos}
use Rattle.valuation.specs.Factor.{positive, factor_of, factors_of}
use Rattle.valuation.proofs.Laws.{credibility-high, margin-bounds}
use Rattle.valuation.proofs.factor.factors_of.Goals as goal

pub t_of-requires : goal.t_of-requires
t_of-requires c =
    let a = c.args in
    omega (arith, credibility-high a.group (pos a.expected), margin-bounds a.group a.terminations)

pub overflow_cast-result : goal.overflow_cast-result
overflow_cast-result c =
    let a = c.args in
    omega (arith, credibility-high a.group (pos a.expected))

pub overflow_cast-result-2 : goal.overflow_cast-result-2
overflow_cast-result-2 c =
    let a = c.args in
    omega (arith, margin-bounds a.group a.terminations)

pub returns : goal.returns
unfolding factors_of factor_of positive
returns c =
    simp (
      ne_eqb c.args.group 1 (omega arith),
      c.t_of.ensures,
      c.margin_of-m.ensures,
      c.credibility_of-z.ensures,
    )
