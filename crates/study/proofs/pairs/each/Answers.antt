-- `study::pairs::each` meets its contract.
-- Assumes nothing.
use Rattle.std.proofs.Common.{rules, arith, get_or, pos}
use Rattle.study.proofs.Filled.{filled-by}
use Rattle.study.proofs.pairs.each.Goals as goal

pub returns-clause-by_place : goal.returns-clause-by_place
returns-clause-by_place g c k l =
    filled-by _ _ (λ k y. (goal.F-post g) c.args.op (get_or c.args.a.now k (pos 0)) (get_or c.args.b.now k (pos 0)) y) (λ k y q h. search rules) c.from_fn.result (pos 0) 80 0
    c.from_fn.ensures.items.each k (omega arith) (omega arith)
