-- `study::joining::together_within` meets its contract: each group of the range is tested, and the tests together are the definition's.
-- Assumes nothing.
use Prim.Native.Nat.{◌*◌}
use mathlib.Core.Path.{refl, ◌∙◌}
use borrow.Author.Tests.{tests}
use Rattle.std.proofs.Common.{rules}
use Rattle.std.proofs.lemmas.Iterator.{YieldsList-from_range}
use Rattle.std.proofs.lemmas.Iterator.Search.{all_from_yields_List}
use Rattle.study.proofs.InBounds.{every_in_range}
use Rattle.study.specs.design.Private.{group_together}
use Rattle.study.proofs.Joins.{sum_in_bound, groups-together, sums-within}
use Rattle.study.proofs.joining.together_within.Goals as goal

pub returns : goal.returns
returns c =
    let a = c.args.a.now in
    let b = c.args.b.now in
    all_from_yields_List (λ g. group_together a b (8 * g)) _ _ _ c.all.ensures.ran (YieldsList-from_range 0 10 10 refl refl) (λ x b q k. search (rules, tests))
    ∙ every_in_range 10 (λ g. group_together a b (8 * g))
    ∙ groups-together a b
    ∙ sums-within a b c.requires.a_value c.requires.b_value
