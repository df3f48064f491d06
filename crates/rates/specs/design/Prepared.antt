-- A rate table prepared once for many claims: the checks 6 and 8 made beforehand, and each sound cell's rates replaced by their running sums.
use Rattle.std.specs.Prelude.{ℕ, zero, suc, ◌+◌, ◌-◌, ◌*◌, max, Bool, ◌&&◌, List, [], ◌∷◌, ◌++◌, length, get_or, set, take, drop, leb, ltb, eqb, ℤ, pos, ◌-ℤ◌}
use Rattle.basics.specs.Limits.{cell_numbers}
use Rattle.basics.specs.Pick.{pick}
use Rattle.basics.specs.Checks.{check, ◌then◌, refuse_rate_table, refuse_cell, refuse_rate}
use Rattle.basics.specs.Series.{sum_to}
use Rattle.rates.specs.declared.Kind.{Kind}
use Rattle.rates.specs.declared.Kind.TheVariants.{Plain, Prepared}
use Rattle.rates.specs.Rates.{cells, place, recovery_rate, death_rate, table_sound, rates_sound, rate_check}

-- a table to be prepared, or prepared, is the numbers of the cells and one more, its mark
unfoldable pub numbers_of_cell : List ℕ → List ℕ
numbers_of_cell table = take (length table - 1) table

unfoldable pub mark : List ℕ → ℕ
mark table = get_or table (length table - 1) 0

-- running sums: s and the numbers up to each
unfoldable pub running_from : ℕ → List ℕ → List ℕ
running_from s [] = []
running_from s (x ∷ xs) = (s + x) ∷ running_from (s + x) xs

-- a cell prepared: running sums of its recovery rates and of its death rates. One that check 8 refuses has 2³² − 1 as its first number,
-- and its other numbers are as they were
unfoldable pub prepared_cell : List ℕ → List ℕ
prepared_cell cell =
    pick (rates_sound cell 0) (running_from 0 (take 479 cell) ++ running_from 0 (drop 479 cell)) (set cell 0 4294967295)

-- the first n cells of some rates prepared
unfoldable pub prepared_cells : List ℕ → ℕ → List ℕ
prepared_cells rates zero = []
prepared_cells rates (suc n) = prepared_cell (take cell_numbers rates) ++ prepared_cells (drop cell_numbers rates) n

-- the prepared table of some rates: its mark is 1
unfoldable pub prepared : List ℕ → List ℕ
prepared rates = prepared_cells rates (cells rates) ++ (1 ∷ [])

-- a table of the length asked for whose mark is m
unfoldable pub has_mark : List ℕ → ℕ → Bool
has_mark table m = table_sound (numbers_of_cell table) && eqb (mark table) m

-- Preparing takes a table whose mark is 0; 6 where its length or its mark is another, and the table is left as it is
unfoldable pub prepare_check : List ℕ → ℕ
prepare_check table = check (has_mark table 0) refuse_rate_table

unfoldable pub prepare_after : List ℕ → List ℕ
prepare_after table = pick (has_mark table 0) (prepared (numbers_of_cell table)) table

-- The checks 6 to 8 with a prepared table: 6 where the length is wrong or the mark isn't 1, 7 as always, 8 where the cell's first number is
-- over 1,000,000
unfoldable pub prepared_check : List ℕ → ℕ → ℕ
prepared_check table cell =
    check (has_mark table 1) refuse_rate_table
    then check (ltb cell (cells (numbers_of_cell table))) refuse_cell
    then check (leb (get_or table (cell * cell_numbers) 0) 1000000) refuse_rate

-- How many cells a table of either kind has, looked at once for many claims: none where its length or its mark is not that of its kind
unfoldable pub cells_of : Kind → List ℕ → ℕ
cells_of Plain table = pick (table_sound table) (cells table) 0
cells_of Prepared table = pick (has_mark table 1) (cells (numbers_of_cell table)) 0

-- The rate at a duration of running sums that start at a place: what is added there; a later duration than 480 uses 480's
unfoldable pub sum_before : List ℕ → ℕ → ℕ → ℤ
sum_before table at zero = pos 0
sum_before table at (suc p) = pos (get_or table (at + p) 0)

unfoldable pub prepared_rate : List ℕ → ℕ → ℕ → ℤ
prepared_rate table at d = pos (get_or table (at + place d) 0) -ℤ sum_before table at (place d)

-- Checks and rates of either kind of table
unfoldable pub table_check_of : Kind → List ℕ → ℕ → ℕ
table_check_of Plain table cell = rate_check table cell
table_check_of Prepared table cell = prepared_check table cell

unfoldable pub recovery_of : Kind → List ℕ → ℕ → ℕ → ℤ
recovery_of Plain table cell d = pos (recovery_rate table cell d)
recovery_of Prepared table cell d = prepared_rate table (cell * cell_numbers) d

unfoldable pub death_of : Kind → List ℕ → ℕ → ℕ → ℤ
death_of Plain table cell d = pos (death_rate table cell d)
death_of Prepared table cell d = prepared_rate table (cell * cell_numbers + 479) d

-- The rates of a cell from its part of a table: 958 numbers, a table of that one cell. A list of another length has no rates
unfoldable pub part_recovery : Kind → List ℕ → ℕ → ℤ
part_recovery kind part d = pick (eqb (length part) cell_numbers) (recovery_of kind part 0 d) (pos 0)

unfoldable pub part_death : Kind → List ℕ → ℕ → ℤ
part_death kind part d = pick (eqb (length part) cell_numbers) (death_of kind part 0 d) (pos 0)

-- the sum of the rates at n durations from d on, past 480 too; none is before 2
unfoldable pub rates_over : (ℕ → ℤ) → ℕ → ℕ → ℤ
rates_over rate d n = sum_to (λ j. rate (max d 2 + j)) n

-- The table that preparing makes of rates with the mark 0 behind them
unfoldable pub prepared_of : List ℕ → List ℕ
prepared_of rates = prepare_after (rates ++ (0 ∷ []))
