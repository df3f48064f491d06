-- A cell's part of a table: it has the cell's rates and its check 8. A table that passes the checks has it.
-- Assumes nothing.
use Prim.Native.Nat.{ℕ, zero, suc, ◌+◌, ◌-◌, ◌*◌, ◌≤◌, ◌<◌}
use mathlib.Core.Path.{◌≡◌, refl, sym, ap, ap₂, ◌∙◌, fun_ext}
use mathlib.Core.List.{List}
use native.Mathlib.Omega.{arith}
use native.Mathlib.Nat.{zero-add, add-zero, add_assoc}
use lib.ListN.{length, get_or, take, drop, length-drop}
use lib.Seq.{length-take-le, get_or-take, get_or-drop}
use lib.Dec.{ltb}
use lib.IntN.{ℤ, pos, ◌-ℤ◌}
use borrow.Author.Tests.{ltb-true, eq-eqb}
use Rattle.basics.specs.Checks.{check}
use Rattle.basics.proofs.Checks.{check-passed, then-passed}
use Rattle.rates.specs.declared.Kind.{Kind}
use Rattle.rates.specs.declared.Kind.TheVariants.{Plain, Prepared}
use Rattle.rates.specs.Rates.{cells, place, recovery_rate, death_rate, rates_sound_to, rates_sound}
use Rattle.rates.specs.design.Prepared.{numbers_of_cell, has_mark, prepared_check, sum_before, prepared_rate, table_check_of, recovery_of, death_of, part_recovery, part_death}
use Rattle.rates.proofs.Laws.{place-below, all-passed}
use Rattle.rates.proofs.Preparing.{sound-length, numbers-length, has_mark-sound}

-- the part of a cell
abbrev pub cell_part : List ℕ → ℕ → List ℕ
cell_part table cell = take 958 (drop (cell * 958) table)

module _ (table : List ℕ) (cell : ℕ) where
  abbrev part : List ℕ
  part = cell_part table cell

  pub number-in : (i : ℕ) → i < 958 → get_or part i 0 ≡ get_or table (cell * 958 + i) 0
  number-in i h = get_or-take 958 (drop (cell * 958) table) i 0 h ∙ get_or-drop (cell * 958) table i 0

  -- the number at a place, of numbers that start at one
  number-from : (at p : ℕ) → at + p < 958 → get_or part (at + p) 0 ≡ get_or table (cell * 958 + at + p) 0
  number-from at p h = number-in (at + p) h ∙ ap (λ (i : ℕ). get_or table i 0) (sym (add_assoc (cell * 958) at p))

  sound-in : (m : ℕ) → rates_sound_to part 0 m ≡ rates_sound_to table cell m
  unfolding rates_sound_to recovery_rate death_rate
  sound-in zero = refl
  sound-in (suc m) =
      let h = place-below (m + 2) in
      rw (zero-add (place (m + 2)), number-in (place (m + 2)) (omega arith), number-from 479 (place (m + 2)) (omega arith), sound-in m)

  pub part_sound : rates_sound part 0 ≡ rates_sound table cell
  unfolding rates_sound
  part_sound = sound-in 479

  -- rates by numbers that start at one, of running sums too
  before-in : (at p : ℕ) → at + p ≤ 958 → sum_before part at p ≡ sum_before table (cell * 958 + at) p
  unfolding sum_before
  before-in at zero h = refl
  before-in at (suc p) h = ap pos (number-from at p (omega arith))

  rate-in : (at d : ℕ) → at ≤ 479 → prepared_rate part at d ≡ prepared_rate table (cell * 958 + at) d
  unfolding prepared_rate
  rate-in at d h =
      let l = place-below d in
      ap₂ (λ (x y : ℤ). x -ℤ y) (ap pos (number-from at (place d) (omega arith))) (before-in at (place d) (omega arith))

  recovery-in : (kind : Kind) (d : ℕ) → recovery_of kind part 0 d ≡ recovery_of kind table cell d
  unfolding recovery_of recovery_rate
  recovery-in Plain d = let l = place-below d in rw (zero-add (place d)) (ap pos (number-in (place d) (omega arith)))
  recovery-in Prepared d = rw (add-zero (cell * 958)) at (rate-in 0 d (omega arith))

  death-in : (kind : Kind) (d : ℕ) → death_of kind part 0 d ≡ death_of kind table cell d
  unfolding death_of death_rate
  death-in Plain d = let l = place-below d in ap pos (number-from 479 (place d) (omega arith))
  death-in Prepared d = rate-in 479 d (omega arith)

  -- the part as it is lent
  pub lent-part : take (cell * 958 + 958 - cell * 958) (drop (cell * 958) table) ≡ part
  lent-part = let width : cell * 958 + 958 - cell * 958 ≡ 958 = omega arith in rw width

  -- where the table has all of the cell, its part has the cell's rates
  module _ (all : cell * 958 + 958 ≤ length table) where
    pub part_length : length part ≡ 958
    part_length = length-take-le 958 (drop (cell * 958) table) (omega (arith, length-drop (cell * 958) table))

    pub part-recovery : (kind : Kind) → part_recovery kind part ≡ recovery_of kind table cell
    unfolding part_recovery
    part-recovery kind = fun_ext (λ d. rw (eq-eqb (length part) 958 part_length) (recovery-in kind d))

    pub part-death : (kind : Kind) → part_death kind part ≡ death_of kind table cell
    unfolding part_death
    part-death kind = fun_ext (λ d. rw (eq-eqb (length part) 958 part_length) (death-in kind d))

-- a cell that passes the checks 6 and 7 is in the table
pub cell-within : (kind : Kind) (table : List ℕ) (cell : ℕ) → table_check_of kind table cell ≡ 0 → cell * 958 + 958 ≤ length table
unfolding table_check_of prepared_check cells
cell-within Plain table cell e =
    let q = all-passed table cell e in
    omega (arith, sound-length (length table) q.0, ltb-true cell (cells table) q.1)
cell-within Prepared table cell e =
    let p = then-passed (check (has_mark table 1) 6) _ e in
    let q = then-passed (check (ltb cell (cells (numbers_of_cell table))) 7) _ p.1 in
    let m = check-passed (has_mark table 1) 6 (omega arith) p.0 in
    let l = check-passed (ltb cell (cells (numbers_of_cell table))) 7 (omega arith) q.0 in
    omega (arith, sound-length (length table - 1) (has_mark-sound table 1 m), numbers-length table, ltb-true cell (cells (numbers_of_cell table)) l)
