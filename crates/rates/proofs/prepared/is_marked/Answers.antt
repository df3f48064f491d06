-- `rates::prepared::is_marked` meets its contract: the last number is the mark, and the others are those of the cells. Assumes nothing.
use Prim.Native.Nat.{ℕ, ◌-◌}
use mathlib.Core.Path.{◌≡◌, sym, ◌∙◌}
use mathlib.Core.Bool.{true, false, ◌&&◌}
use mathlib.Core.List.{List, [], ◌∷◌, ◌++◌}
use native.Mathlib.Omega.{arith}
use lib.Dec.{eqb}
use lib.ListN.{length}
use Rattle.rates.specs.Rates.{length_sound}
use Rattle.rates.specs.design.Prepared.{has_mark}
use Rattle.rates.proofs.Preparing.{has_mark-is}
use Rattle.rates.proofs.SameTable.{behind-has_mark}
use Rattle.rates.proofs.prepared.is_marked.Goals as goal

-- numbers with a mark behind them
last-marks : (table rest : List ℕ) (last m : ℕ) → table ≡ rest ++ (last ∷ []) → has_mark table m ≡ (length_sound (length rest) && eqb last m)
last-marks table rest last m e = rw (e, behind-has_mark rest last m)

pub returns-then-is_table : goal.returns-then-is_table
returns-then-is_table c =
    let sound : length_sound (length c.in-Some.numbers.now) ≡ true = sym c.is_table.ensures ∙ c.if-is_table.true in
    sym (rw sound at (last-marks c.args.table.now c.in-Some.numbers.now c.in-Some.last.now c.args.mark c.in-Some.ensures.cases.0))

pub returns-else-is_table : goal.returns-else-is_table
returns-else-is_table c =
    let sound : length_sound (length c.in-Some.numbers.now) ≡ false = sym c.is_table.ensures ∙ c.if-is_table.false in
    c.if-is_table.false ∙ sym (rw sound at (last-marks c.args.table.now c.in-Some.numbers.now c.in-Some.last.now c.args.mark c.in-Some.ensures.cases.0))

pub returns-in-None : goal.returns-in-None
unfolding length_sound
returns-in-None c =
    let none : length c.args.table.now - 1 ≡ 0 = omega (arith, c.in-None.ensures.cases) in
    simp (has_mark-is, none)
