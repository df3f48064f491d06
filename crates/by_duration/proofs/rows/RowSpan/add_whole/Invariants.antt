use Rattle.std.proofs.Common.{◌≡◌, ◌+◌, ◌*◌, List, length, ℤ}
use Rattle.rates.specs.design.Prepared.{part_recovery, part_death}
use Rattle.by_duration.specs.design.Private.{Fit, raised_by, span_months}
use Rattle.by_duration.proofs.rows.RowSpan.add_whole.Given as goal

abbrev pub invariant-loop-pair : goal.invariant-loop-pair
invariant-loop-pair l =
    let a = l.fn in
    (length l.rows ≡ 8 * a.self.n) × Fit l.rows
    × ((s : List ℤ) → l.initial.rows ≡ raised_by s (span_months (part_recovery a.kind l.part) (part_death a.kind l.part) a.self.n a.self.span 1)
    → l.rows ≡ raised_by s (span_months (part_recovery a.kind l.part) (part_death a.kind l.part) a.self.n a.self.span (1 + 2 * l.pair)))
