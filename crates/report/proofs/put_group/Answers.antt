-- `put_group` meets its contract: the group's number, its sums, T and the line's end, one behind another. Assumes nothing.
use Prim.Native.Nat.{ℕ}
use mathlib.Core.Path.{◌≡◌, ap}
use native.Mathlib.Omega.{arith}
use mathlib.Core.List.{List}
use lib.IntN.{ℤ}
use Rattle.valuation.specs.StudyFactor.{study_factor}
use Rattle.report.specs.Text.{number_text, factor_column, group_line}
use Rattle.report.specs.design.Private.{Put}
use Rattle.report.proofs.Texts.{and_then, renamed}
use Rattle.report.proofs.put_group.Goals as goal

-- T of a group that is another
of-group : {l a : List ℕ} {at r m x : ℕ} (sums : List ℤ) (g : ℕ) → Put m l at (factor_column (study_factor sums x)) a r → x ≡ g
    → Put m l at (factor_column (study_factor sums g)) a r
of-group sums g p e = renamed p (ap (λ (k : ℕ). factor_column (study_factor sums k)) e)

pub returns : goal.returns
unfolding group_line
returns c =
    let s = c.args in
    and_then (renamed c.put_short-at.ensures (ap number_text c.from.ensures))
    (and_then c.put_sums-at.ensures
    (and_then (of-group s.sums.now s.group c.put_factor-at.ensures (omega arith)) c.put_byte.ensures))
