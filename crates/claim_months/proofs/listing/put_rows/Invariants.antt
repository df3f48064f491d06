use Rattle.claim_months.proofs.RowTurns.{Turn}
use Rattle.claim_months.proofs.listing.put_rows.Given as goal

abbrev pub invariant-loop-place : goal.invariant-loop-place
invariant-loop-place l = Turn l.claim l.span l.from l.to l.initial.start l.initial.list l.list l.start l.place
