-- The form of a table of either kind, looked at once, and then its cells: together the checks 6 to 8.
-- Assumes nothing.
use Prim.Native.Nat.{ℕ, ◌+◌, ◌-◌, ◌*◌, ◌/◌, ◌≤◌, ◌<◌}
use mathlib.Core.Path.{◌≡◌, refl, sym, ◌∙◌}
use mathlib.Core.Bool.{Bool, true, false}
use mathlib.Core.List.{List}
use native.Mathlib.Omega.{arith}
use native.Mathlib.Nat.{add-zero}
use lib.ListN.{length, get_or}
use borrow.Author.Tests.{lt-ltb, le-ltb}
use Rattle.basics.specs.Pick.{pick}
use Rattle.basics.specs.Checks.{◌then◌}
use Rattle.basics.proofs.Tests.{by}
use Rattle.rates.specs.declared.Kind.{Kind}
use Rattle.rates.specs.declared.Kind.TheVariants.{Plain, Prepared}
use Rattle.rates.specs.Rates.{cells, rate_check}
use Rattle.rates.specs.design.Prepared.{prepared_check, table_check_of, cells_of}
use Rattle.rates.specs.design.Private.{formed, part_sound_of}
use Rattle.rates.proofs.Preparing.{sound-length, numbers-length, has_mark-sound}
use Rattle.rates.proofs.Parts.{cell_part, number-in, part_sound}

-- a table of its form has as many cells as its length has times 958 numbers, since the mark is one number; another has none
pub formed-cells : (kind : Kind) (table : List ℕ) → formed kind table ≡ true → cells_of kind table ≡ length table / 958
unfolding formed cells_of cells
formed-cells Plain table h = rw h
formed-cells Prepared table h =
    let s = sound-length (length table - 1) (has_mark-sound table 1 h) in
    let e : (length table - 1) / 958 ≡ length table / 958 = omega (arith, s) in
    rw (h, numbers-length table) e

pub formed-few : (kind : Kind) (table : List ℕ) → formed kind table ≡ true → length table / 958 ≤ 1024
unfolding formed
formed-few Plain table h = let s = sound-length (length table) h in omega (arith, s)
formed-few Prepared table h = let s = sound-length (length table - 1) (has_mark-sound table 1 h) in omega (arith, s)

pub unformed-cells : (kind : Kind) (table : List ℕ) → formed kind table ≡ false → cells_of kind table ≡ 0
unfolding formed cells_of
unformed-cells Plain table h = rw h
unformed-cells Prepared table h = rw h

some-cells : (kind : Kind) (table : List ℕ) → formed kind table ≡ true → 0 < cells_of kind table
unfolding formed
some-cells Plain table h = let s = sound-length (length table) h in let e = formed-cells Plain table h in omega (arith, s, e)
some-cells Prepared table h =
    let s = sound-length (length table - 1) (has_mark-sound table 1 h) in let e = formed-cells Prepared table h in omega (arith, s, e)

pub some-formed : (kind : Kind) (table : List ℕ) → 0 < cells_of kind table → formed kind table ≡ true
some-formed kind table l =
    by (formed kind table) (λ t. t ≡ true) (λ q. refl) (λ q. let u = unformed-cells kind table q in absurd (omega (arith, u, l)))

none-formed : (kind : Kind) (table : List ℕ) → cells_of kind table ≡ 0 → formed kind table ≡ false
none-formed kind table z =
    by (formed kind table) (λ t. t ≡ false) (λ q. let s = some-cells kind table q in absurd (omega (arith, s, z))) (λ q. refl)

-- the check that fails
refused-form : (kind : Kind) (table : List ℕ) (cell : ℕ) → formed kind table ≡ false → table_check_of kind table cell ≡ 6
unfolding formed table_check_of rate_check prepared_check ◌then◌
refused-form Plain table cell h = simp h
refused-form Prepared table cell h = simp h

refused-cell : (kind : Kind) (table : List ℕ) (cell : ℕ) → formed kind table ≡ true → cells_of kind table ≤ cell → table_check_of kind table cell ≡ 7
unfolding formed table_check_of rate_check prepared_check cells_of cells ◌then◌
refused-cell Plain table cell h l = let m : length table / 958 ≤ cell = rw h at l in simp (h, le-ltb cell (length table / 958) m)
refused-cell Prepared table cell h l =
    let m : (length table - 1) / 958 ≤ cell = rw (h, numbers-length table) at l in simp (h, numbers-length, le-ltb cell ((length table - 1) / 958) m)

by-part : (kind : Kind) (table : List ℕ) (cell : ℕ) → formed kind table ≡ true → cell < cells_of kind table
    → table_check_of kind table cell ≡ pick (part_sound_of kind (cell_part table cell)) 0 8
unfolding formed part_sound_of table_check_of rate_check prepared_check cells_of cells ◌then◌
by-part Plain table cell h l = let m : cell < length table / 958 = rw h at l in simp (h, lt-ltb cell (length table / 958) m, part_sound table cell)
by-part Prepared table cell h l =
    let m : cell < (length table - 1) / 958 = rw (h, numbers-length table) at l in
    let first : get_or (cell_part table cell) 0 0 ≡ get_or table (cell * 958) 0 = rw (add-zero (cell * 958)) at (number-in table cell 0 (omega arith)) in
    simp (h, numbers-length, lt-ltb cell ((length table - 1) / 958) m, first)

module _ (kind : Kind) (table : List ℕ) (cell n : ℕ) (e : n ≡ cells_of kind table) where
  pub no-form : n ≡ 0 → table_check_of kind table cell ≡ 6
  no-form z = refused-form kind table cell (none-formed kind table (sym e ∙ z))

  module _ (s : 0 < n) where
    has-form : formed kind table ≡ true
    has-form = some-formed kind table (omega (arith, s, e))

    pub no-cell : n ≤ cell → table_check_of kind table cell ≡ 7
    no-cell l = refused-cell kind table cell has-form (omega (arith, l, e))

    -- the whole of the cell is in the table
    pub cell-in : cell < n → cell * 958 + 958 ≤ length table
    cell-in l = let f = formed-cells kind table has-form in omega (arith, l, e, f)

    pub part-decides : (t : Bool) → cell < n → t ≡ part_sound_of kind (cell_part table cell) → table_check_of kind table cell ≡ pick t 0 8
    part-decides t l p = rw p (by-part kind table cell has-form (omega (arith, l, e)))
