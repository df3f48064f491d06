use Rattle.std.proofs.Common.{◌≡◌, ◌*◌, List, length, ℤ}
use Rattle.rates.specs.design.Prepared.{part_recovery, part_death}
use Rattle.by_duration.specs.design.Private.{Fit, raised_by, span_months}
use Rattle.by_duration.proofs.rows.RowSpan.add_from.Given as goal

abbrev pub invariant-loop-month : goal.invariant-loop-month
invariant-loop-month l =
    (length l.rows ≡ 8 * l.self.n) × Fit l.rows
    × ((s : List ℤ) → l.initial.rows ≡ raised_by s (span_months (part_recovery l.kind l.part) (part_death l.kind l.part) l.self.n l.self.span l.from)
    → l.rows ≡ raised_by s (span_months (part_recovery l.kind l.part) (part_death l.kind l.part) l.self.n l.self.span l.month))
