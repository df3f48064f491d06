-- The prepared table of some rates has their checks and their rates, and how large a table's rates can be.
-- Assumes nothing.
use Prim.Native.Nat.{ℕ, zero, suc, ◌+◌, ◌-◌, ◌*◌, ◌/◌, ◌≤◌, ◌<◌}
use mathlib.Core.Path.{◌≡◌, refl, sym, ap, ◌∙◌}
use mathlib.Core.Bool.{true, false, ◌&&◌}
use mathlib.Core.List.{List, [], ◌∷◌, ◌++◌}
use native.Mathlib.Omega.{arith}
use lib.ListN.{length, get_or, take, drop, length-append, length-take, length-drop, length-set, get_or-append}
use borrow.Author.Tests.{ltb-true, le-leb, lt-leb}
use lib.Seq.{get_or_at, get_or-set_same, length-take-le, drop-drop, get_or-append-add, get_or-take, get_or-drop, take_at}
use lib.Dec.{leb, ltb, eqb}
use lib.IntN.{pos, nat_abs, ◌-ℤ◌}
use native.Mathlib.Nat.{zero-add, add-zero, add_assoc}
use Rattle.basics.specs.Checks.{check, ◌then◌}
use Rattle.basics.specs.Tables.{all_at_most}
use Rattle.basics.proofs.Tests.{by}
use Rattle.basics.proofs.Tables.{at-most-at}
use Rattle.rates.specs.Rates.{length_sound, cells, place, recovery_rate, death_rate, rates_sound, rate_check}
use Rattle.rates.specs.declared.Kind.{Kind}
use Rattle.rates.specs.declared.Kind.TheVariants.{Plain, Prepared}
use Rattle.rates.proofs.Running.{running-length, running-first, running-rates, difference-size}
use Rattle.rates.proofs.Laws.{place-below, all-passed}
use Rattle.rates.specs.design.Prepared.{numbers_of_cell, mark, has_mark, running_from, prepared_cell, prepared_cells, prepared, prepare_after, prepared_of, prepared_check, sum_before, prepared_rate, table_check_of, recovery_of, death_of}
use Rattle.rates.specs.design.SameTable.{SameTable}
use Rattle.rates.proofs.Preparing.{sound-length, has_mark-is, sound-pair}
use Rattle.rates.proofs.Parts.{cell_part, number-in, part_sound, part_length}

-- the prepared cells by their places
prepared-length : (xs : List ℕ) → length xs ≡ 958 → length (prepared_cell xs) ≡ 958
unfolding prepared_cell
prepared-length xs l =
    by (rates_sound xs 0) (λ _. length (prepared_cell xs) ≡ 958)
    (λ e. rw e (simp (length-append, running-length, length-take, length-drop) (omega arith))) (λ e. rw e (simp length-set l))

cells-length : (rates : List ℕ) (n : ℕ) → n * 958 ≤ length rates → length (prepared_cells rates n) ≡ n * 958
unfolding prepared_cells
cells-length rates zero h = refl
cells-length rates (suc n) h =
    let cell = prepared-length (take 958 rates) (length-take-le 958 rates (omega arith)) in
    let rest = cells-length (drop 958 rates) n (omega (arith, length-drop 958 rates)) in
    omega (arith, length-append (prepared_cell (take 958 rates)) (prepared_cells (drop 958 rates) n))

-- cell k of a table by itself
cell_at :
    (rates : List ℕ) (n k i : ℕ) → k < n → i < 958 → n * 958 ≤ length rates → get_or (prepared_cells rates n) (k * 958 + i) 0 ≡ get_or (prepared_cell (cell_part rates k)) i 0
unfolding prepared_cells
cell_at rates zero k i h l m = absurd (omega arith)
cell_at rates (suc n) zero i h l m =
    let cell = prepared-length (take 958 rates) (length-take-le 958 rates (omega arith)) in
    rw (zero-add i) (get_or-append (prepared_cell (take 958 rates)) (prepared_cells (drop 958 rates) n) 0 i (omega arith))
cell_at rates (suc n) (suc k) i h l m =
    let cell = prepared-length (take 958 rates) (length-take-le 958 rates (omega arith)) in
    let at : suc k * 958 + i ≡ length (prepared_cell (take 958 rates)) + (k * 958 + i) = omega arith in
    let from : 958 + k * 958 ≡ suc k * 958 = omega arith in
    rw at
    (get_or-append-add (prepared_cell (take 958 rates)) (prepared_cells (drop 958 rates) n) (k * 958 + i) 0
    ∙ rw (drop-drop (k * 958) 958 rates, from) at (cell_at (drop 958 rates) n k i (omega arith) l (omega (arith, length-drop 958 rates))))

-- a list with a mark behind it
module _ (xs : List ℕ) (m : ℕ) where
  behind-length : length (xs ++ (m ∷ [])) - 1 ≡ length xs
  behind-length = omega (arith, length-append xs (m ∷ []))

  behind-numbers : numbers_of_cell (xs ++ (m ∷ [])) ≡ xs
  unfolding numbers_of_cell
  behind-numbers = rw behind-length (take_at xs (m ∷ []) (length xs) refl)

  pub behind-has_mark : (k : ℕ) → has_mark (xs ++ (m ∷ [])) k ≡ (length_sound (length xs) && eqb m k)
  unfolding mark
  behind-has_mark k = has_mark-is (xs ++ (m ∷ [])) k ∙ rw (behind-length, get_or_at xs m [] 0 (length xs) refl)

-- rates whose length check 6 refuses stay as they are, and their mark is refused
module _ (rates : List ℕ) (refused : length_sound (length rates) ≡ false) where
  unprepared : prepared_of rates ≡ rates ++ (0 ∷ [])
  unfolding prepared_of prepare_after
  unprepared = rw (behind-has_mark rates 0 0, refused)

  both-refuse : (cell : ℕ) → (prepared_check (prepared_of rates) cell ≡ 6) × (rate_check rates cell ≡ 6)
  unfolding prepared_check rate_check ◌then◌
  both-refuse cell = (simp (unprepared, behind-has_mark, refused), simp refused)

  same-refused : SameTable rates
  unfolding table_check_of recovery_of death_of
  same-refused =
      record {
        same_check = λ cell. (both-refuse cell).0 ∙ sym (both-refuse cell).1;
        same_recovery = λ cell d p. absurd (omega (arith, (both-refuse cell).1));
        same_death = λ cell d p. absurd (omega (arith, (both-refuse cell).1));
      }

-- others are prepared cell by cell
module _ (rates : List ℕ) (taken : length_sound (length rates) ≡ true) where
  size : length rates ≡ cells rates * 958
  unfolding cells
  size = omega (arith, sound-length (length rates) taken)

  is-prepared : prepared_of rates ≡ prepared_cells rates (cells rates) ++ (1 ∷ [])
  unfolding prepared_of prepare_after prepared
  is-prepared = rw (behind-has_mark rates 0 0, taken, behind-numbers rates 0)

  numbers-size : length (prepared_cells rates (cells rates)) ≡ length rates
  numbers-size = cells-length rates (cells rates) (omega (arith, size)) ∙ sym size

  same-cells : cells (prepared_cells rates (cells rates)) ≡ cells rates
  unfolding cells
  same-cells = ap (λ (l : ℕ). l / 958) numbers-size

  module _ (cell : ℕ) (within : cell < cells rates) where
    abbrev C : List ℕ
    C = cell_part rates cell

    C-length : length C ≡ 958
    C-length = part_length rates cell (omega (arith, size))

    number : (i : ℕ) → i < 958 → get_or (prepared_of rates) (cell * 958 + i) 0 ≡ get_or (prepared_cell C) i 0
    number i h =
        rw is-prepared
        (get_or-append (prepared_cells rates (cells rates)) (1 ∷ []) 0 (cell * 958 + i) (omega (arith, size, numbers-size))
        ∙ cell_at rates (cells rates) cell i within h (omega (arith, size)))

    has_mark-first : rates_sound rates cell ≡ false → 1000000 < get_or (prepared_of rates) (cell * 958) 0
    unfolding prepared_cell
    has_mark-first s =
        let first = rw (add-zero (cell * 958)) at (number 0 (omega arith)) in
        let some : 0 < length C = omega (arith, C-length) in
        rw (first, part_sound rates cell, s, get_or-set_same) (omega arith)

    module _ (s : rates_sound rates cell ≡ true) where
      summed : prepared_cell C ≡ running_from 0 (take 479 C) ++ running_from 0 (drop 479 C)
      unfolding prepared_cell
      summed = rw (part_sound rates cell, s)

      first-size : length (take 479 C) ≡ 479
      first-size = length-take-le 479 C (omega (arith, C-length))

      first-half : (i : ℕ) → i < 479 → get_or (prepared_of rates) (cell * 958 + i) 0 ≡ get_or (running_from 0 (take 479 C)) i 0
      first-half i h =
          number i (omega arith)
          ∙ rw summed
          (get_or-append (running_from 0 (take 479 C)) (running_from 0 (drop 479 C)) 0 i (omega (arith, running-length 0 (take 479 C), first-size)))

      second-half : (i : ℕ) → i < 479 → get_or (prepared_of rates) (cell * 958 + 479 + i) 0 ≡ get_or (running_from 0 (drop 479 C)) i 0
      second-half i h =
          let l : length (running_from 0 (take 479 C)) ≡ 479 = running-length 0 (take 479 C) ∙ first-size in
          rw (add_assoc (cell * 958) 479 i)
          (number (479 + i) (omega arith)
          ∙ rw summed (rw l at (get_or-append-add (running_from 0 (take 479 C)) (running_from 0 (drop 479 C)) i 0)))

      small-first : get_or (prepared_of rates) (cell * 958) 0 ≤ 1000000
      small-first =
          let is =
          first-half 0 (omega arith) ∙ running-first 0 (take 479 C) (omega (arith, first-size)) ∙ zero-add (get_or (take 479 C) 0 0)
          ∙ get_or-take 479 C 0 0 (omega arith) ∙ number-in rates cell 0 (omega arith) in
          let small : get_or (prepared_of rates) (cell * 958 + 0) 0 ≤ 1000000 = omega (arith, is, sound-pair rates cell 0 s (omega arith)) in
          rw (add-zero (cell * 958)) at small

      recovery-same : (d : ℕ) → prepared_rate (prepared_of rates) (cell * 958) d ≡ pos (recovery_rate rates cell d)
      unfolding recovery_rate
      recovery-same d =
          running-rates (prepared_of rates) (cell * 958) (take 479 C) first-size first-half d
          ∙ ap pos (get_or-take 479 C (place d) 0 (place-below d) ∙ number-in rates cell (place d) (omega (arith, place-below d)))

      death-same : (d : ℕ) → prepared_rate (prepared_of rates) (cell * 958 + 479) d ≡ pos (death_rate rates cell d)
      unfolding death_rate
      death-same d =
          running-rates (prepared_of rates) (cell * 958 + 479) (drop 479 C) (omega (arith, C-length, length-drop 479 C)) second-half d
          ∙ ap pos (get_or-drop 479 C (place d) 0 ∙ number-in rates cell (479 + place d) (omega (arith, place-below d))
          ∙ ap (λ (i : ℕ). get_or rates i 0) (sym (add_assoc (cell * 958) 479 (place d))))

    last-check : leb (get_or (prepared_of rates) (cell * 958) 0) 1000000 ≡ rates_sound rates cell
    last-check =
        let first : ℕ = get_or (prepared_of rates) (cell * 958) 0 in
        by (rates_sound rates cell) (λ t. leb first 1000000 ≡ t) (λ s. le-leb first 1000000 (small-first s))
        (λ s. lt-leb first 1000000 (has_mark-first s))

  numbers-same : numbers_of_cell (prepared_of rates) ≡ prepared_cells rates (cells rates)
  numbers-same = ap numbers_of_cell is-prepared ∙ behind-numbers (prepared_cells rates (cells rates)) 1

  has_mark-one : has_mark (prepared_of rates) 1 ≡ true
  has_mark-one = rw (is-prepared, behind-has_mark (prepared_cells rates (cells rates)) 1 1, numbers-size, taken)

  checks-same : (cell : ℕ) → prepared_check (prepared_of rates) cell ≡ rate_check rates cell
  unfolding prepared_check rate_check ◌then◌
  checks-same cell =
      let first : ℕ = get_or (prepared_of rates) (cell * 958) 0 in
      rw (has_mark-one, numbers-same, same-cells, taken)
      (by (ltb cell (cells rates)) (λ t. (check t 7 then check (leb first 1000000) 8) ≡ (check t 7 then check (rates_sound rates cell) 8))
      (λ q. rw (last-check cell (ltb-true cell (cells rates) q))) (λ _. refl))

  same_taken : SameTable rates
  unfolding table_check_of recovery_of death_of
  same_taken =
      record {
        same_check = checks-same;
        same_recovery = λ cell d p. let q = all-passed rates cell p in recovery-same cell (ltb-true cell (cells rates) q.1) q.2 d;
        same_death = λ cell d p. let q = all-passed rates cell p in death-same cell (ltb-true cell (cells rates) q.1) q.2 d;
      }

pub same-table : (rates : List ℕ) → SameTable rates
same-table rates = by (length_sound (length rates)) (λ _. SameTable rates) (same_taken rates) (same-refused rates)

-- in a table of 32-bit numbers no rate is larger than such a number, whatever its kind
module _ (table : List ℕ) (small : all_at_most 4294967295 table ≡ true) where
  before-size : (at p x : ℕ) → x ≤ 4294967295 → nat_abs (pos x -ℤ sum_before table at p) ≤ 4294967295
  unfolding sum_before
  before-size at zero x h = difference-size x 0 h (omega arith)
  before-size at (suc p) x h = difference-size x _ h (at-most-at 4294967295 table (at + p) small)

  rate-size : (at d : ℕ) → nat_abs (prepared_rate table at d) ≤ 4294967295
  unfolding prepared_rate
  rate-size at d = before-size at (place d) _ (at-most-at 4294967295 table (at + place d) small)

  pub recovery-size : (kind : Kind) (cell d : ℕ) → nat_abs (recovery_of kind table cell d) ≤ 4294967295
  unfolding recovery_of recovery_rate
  recovery-size Plain cell d = at-most-at 4294967295 table (cell * 958 + place d) small
  recovery-size Prepared cell d = rate-size (cell * 958) d

  pub death-size : (kind : Kind) (cell d : ℕ) → nat_abs (death_of kind table cell d) ≤ 4294967295
  unfolding death_of death_rate
  death-size Plain cell d = at-most-at 4294967295 table (cell * 958 + 479 + place d) small
  death-size Prepared cell d = rate-size (cell * 958 + 479) d
