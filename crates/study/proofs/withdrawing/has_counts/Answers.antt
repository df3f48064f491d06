-- `study::withdrawing::has_counts` meets its contract: each place of the range is tested, and the tests together are the definition's.
-- Assumes nothing.
use mathlib.Core.Path.{refl, ◌∙◌}
use borrow.Author.Tests.{tests}
use Rattle.std.proofs.Common.{rules}
use Rattle.std.proofs.lemmas.Iterator.{YieldsList-from_range}
use Rattle.std.proofs.lemmas.Iterator.Search.{all_from_yields_List}
use Rattle.study.specs.Withdrawing.{covers}
use Rattle.study.proofs.InBounds.{every_in_range}
use Rattle.study.proofs.Withdrawals.{covered_at}
use Rattle.study.proofs.withdrawing.has_counts.Goals as goal

pub returns : goal.returns
unfolding covers
returns c =
    let sums = c.args.sums.now in
    let share = c.args.share.now in
    all_from_yields_List (covered_at sums share) _ _ _ c.all.ensures.ran (YieldsList-from_range 0 80 80 refl refl) (λ x b q k. (search rules, search (rules, tests)))
    ∙ every_in_range 80 (covered_at sums share)
