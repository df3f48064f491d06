-- `small_company::is_exempt` meets its contract: each count by its own limit. Assumes nothing.
use borrow.Author.Tests.{lt-ltb, le-ltb}
use Rattle.basics.proofs.Tests.{tests}
use Rattle.small_company.specs.design.Private.{exempt_by}
use Rattle.small_company.proofs.is_exempt.Goals as goal

pub returns-then-counts-lt50 : goal.returns-then-counts-lt50
unfolding exempt_by
returns-then-counts-lt50 c = simp (lt-ltb c.args.counts.recent 50 (omega tests))

pub returns-else-counts-lt50 : goal.returns-else-counts-lt50
unfolding exempt_by
returns-else-counts-lt50 c = simp (le-ltb c.args.counts.recent 50 (omega tests))
