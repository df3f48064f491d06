-- `study::joining::group_together` meets its contract: each place of the range is tested.
-- Assumes nothing.
use Prim.Native.Nat.{◌+◌}
use mathlib.Core.Path.{refl, ap, ◌∙◌}
use native.Mathlib.Omega.{arith}
use borrow.Author.Tests.{tests}
use Rattle.std.specs.List.{range_with_len}
use Rattle.std.proofs.Common.{rules}
use Rattle.std.proofs.lemmas.Iterator.{YieldsList-from_range}
use Rattle.std.proofs.lemmas.List.FromFn.{get_or-range_with_len, length-range_with_len}
use Rattle.std.proofs.lemmas.Iterator.Search.{all_from_yields_List}
use Rattle.basics.proofs.Tables.{every-same}
use Rattle.study.specs.design.Private.{group_together}
use Rattle.study.proofs.Joins.{sum_in_bound}
use Rattle.study.proofs.Listed.{all-placed}
use Rattle.study.proofs.joining.group_together.Goals as goal

pub returns : goal.returns
unfolding group_together
returns c =
    let a = c.args.a.now in
    let b = c.args.b.now in
    all_from_yields_List (sum_in_bound a b) _ _ _ c.all.ensures.ran (YieldsList-from_range c.args.at (c.args.at + 8) 8 refl (omega arith)) (λ x b q k. (search rules, search (rules, tests)))
    ∙ all-placed (sum_in_bound a b) (range_with_len c.args.at 8) 0 8 (omega (arith, length-range_with_len c.args.at 8))
    ∙ every-same 8 _ (λ x. sum_in_bound a b (c.args.at + x)) (λ k l. ap (sum_in_bound a b) (get_or-range_with_len c.args.at 8 k 0 l))
