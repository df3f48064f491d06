-- Definitions that only the contracts of private functions cite: a duration above another, a table's form, and check 8 of a cell's part.
use Rattle.std.specs.Prelude.{ℕ, Bool, List, get_or, leb, ltb}
use Rattle.basics.specs.Pick.{pick}
use Rattle.rates.specs.declared.Kind.{Kind}
use Rattle.rates.specs.declared.Kind.TheVariants.{Plain, Prepared}
use Rattle.rates.specs.Rates.{table_sound, rates_sound}
use Rattle.rates.specs.design.Prepared.{has_mark}

-- 1 where a duration is above a bound, else 0
unfoldable pub one_above : ℕ → ℕ → ℕ
one_above bound d = pick (ltb bound d) 1 0

-- whether a table has the length of one of its kind, and its mark
unfoldable pub formed : Kind → List ℕ → Bool
formed Plain table = table_sound table
formed Prepared table = has_mark table 1

-- whether check 8 passes the 958 numbers of a cell, of a table of either kind
unfoldable pub part_sound_of : Kind → List ℕ → Bool
part_sound_of Plain part = rates_sound part 0
part_sound_of Prepared part = leb (get_or part 0 0) 1000000
