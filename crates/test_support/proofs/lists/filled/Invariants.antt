use Rattle.std.proofs.Common.{◌≡◌, ◌-◌, min}
use Rattle.test_support.specs.Lists.{filled_from, filled_table}
use Rattle.test_support.proofs.lists.filled.Given as goal

abbrev pub invariant-loop-i : goal.invariant-loop-i
invariant-loop-i l = filled_table l.fn.table l.from l.to l.first l.step l.limit ≡ filled_from l.step l.limit (min l.to 1916 - l.i) l.after l.i l.number
