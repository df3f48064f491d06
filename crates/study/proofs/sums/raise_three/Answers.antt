-- `study::sums::raise_three` meets its contract: a column that is raised leaves the others as they are.
-- Assumes nothing.
use native.Mathlib.Omega.{arith}
use mathlib.Core.Path.{◌≡◌, ◌∙◌}
use Rattle.std.proofs.Common.{rules}
use Rattle.study.specs.design.Private.{three_raised}
use Rattle.study.proofs.Low.{kept}
use Rattle.study.proofs.sums.raise_three.Goals as goal

pub raise_both-requires-2-clause-low_value : goal.raise_both-requires-2-clause-low_value
raise_both-requires-2-clause-low_value c q =
    let a = c.args in
    rw c.raise_both.ensures
    (kept a.sums.now a.weight a.group 6 0 _ (omega arith) (omega arith) (omega arith) (omega arith) (λ (e : 6 ≡ 0). omega arith) (c.requires.low_value q).recoveries)

pub raise_both-requires-3-clause-low_value : goal.raise_both-requires-3-clause-low_value
raise_both-requires-3-clause-low_value c q =
    let a = c.args in
    rw (c.raise_both-2.ensures, c.raise_both.ensures)
    (kept _ a.weight a.group 7 6 _ (omega arith) (omega arith) (omega arith) (omega arith) (λ (e : 7 ≡ 6). omega arith)
    (kept a.sums.now a.weight a.group 7 0 _ (omega arith) (omega arith) (omega arith) (omega arith) (λ (e : 7 ≡ 0). omega arith) (c.requires.low_value q).deaths))

pub returns : goal.returns
unfolding three_raised
returns c = c.raise_both-3.ensures ∙ search rules
