-- `small_company::judged` meets its contract: both counts decide. Assumes nothing.
use Rattle.basics.specs.Tables.{table}
use Rattle.small_company.specs.design.Private.{judged_of}
use Rattle.small_company.proofs.judged.Goals as goal

pub returns-then-is_exempt : goal.returns-then-is_exempt
unfolding judged_of table
returns-then-is_exempt c = rw (← c.is_exempt.ensures, c.if-is_exempt.true)

pub returns : goal.returns
unfolding judged_of
returns c = rw (← c.is_exempt.ensures, c.if-is_exempt.false, c.first_moved.ensures)
