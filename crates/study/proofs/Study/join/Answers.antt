-- `study::Study::join` meets its contract: a refusal gives the first study back, and else both are one.
-- Assumes nothing.
use mathlib.Core.Path.{sym, ◌∙◌}
use native.Mathlib.Omega.{arith}
use lib.IntN.{◌+ℤ◌}
use Rattle.std.proofs.Common.{rules}
use Rattle.study.proofs.Algebra.{each-is}
use Rattle.study.proofs.Joins.{Joins, joins, sum-fits, sum-is, join-refused, join-taken}
use Rattle.study.proofs.Study.join.Goals as goal

pub returns-in-Err : goal.returns-in-Err
returns-in-Err c = c.refused.ensures ∙ join-refused c.args.self c.args.other c.in-Err.refusal c.in-Err.ensures

pub overflow_add-result : goal.overflow_add-result
overflow_add-result c =
    let passed : Joins c.args.self c.args.other = joins _ _ (sym c.in_default.ensures) in
    omega (arith, passed.few)

pub each-requires : goal.each-requires
each-requires c k l _ _ _ _ = sum-fits c.args.self c.args.other (joins _ _ (sym c.in_default.ensures)) k l

pub returns : goal.returns
returns c =
    let s = c.args.self in
    let t = c.args.other in
    let passed : Joins s t = joins _ _ (sym c.in_default.ensures) in
    join-taken s t c.in_default.ensures c.each.result
    (each-is ◌+ℤ◌ s.sums t.sums c.each.result c.each.ensures.result_len (λ k l. let h = c.each.ensures.by_place k l in let e = sum-is s t passed k l in search (rules, e)))
