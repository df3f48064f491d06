use Rattle.small_company.proofs.Counting.{Walked}
use Rattle.small_company.proofs.count_claims.Given as goal

abbrev pub invariant-loop-place : goal.invariant-loop-place
invariant-loop-place l = Walked l.first.0 l.last.0 l.bytes l.place l.counts
