-- Document 01, Study: the lent rates, the checks 6 to 8, and the duration groups.
-- Rates are millionths; per cell 479 recovery rates for durations 2 to 480, then 479 death rates; 1 to 1,024 cells (document 02, No. 4).
use Rattle.std.specs.Prelude.{ℕ, zero, suc, ◌+◌, ◌-◌, ◌*◌, ◌/◌, ◌%◌, min, Bool, true, ◌&&◌, List, length, get_or, leb, ltb, eqb}
use Rattle.basics.specs.Limits.{cell_numbers, last_duration}
use Rattle.basics.specs.Pick.{pick}
use Rattle.basics.specs.Checks.{check, ◌then◌, refuse_rate_table, refuse_cell, refuse_rate}

-- the number of cells of a table
unfoldable pub cells : List ℕ → ℕ
cells rates = length rates / cell_numbers

-- the place of a duration among a cell's 479 rates of one kind; a later duration than 480 uses 480's
unfoldable pub place : ℕ → ℕ
place d = min d last_duration - 2

-- the recovery rate of a cell at a duration, and the death rate
unfoldable pub recovery_rate : List ℕ → ℕ → ℕ → ℕ
recovery_rate rates cell d = get_or rates (cell * cell_numbers + place d) 0

unfoldable pub death_rate : List ℕ → ℕ → ℕ → ℕ
death_rate rates cell d = get_or rates (cell * cell_numbers + 479 + place d) 0

-- 6, rate table: length not 958 times 1 to 1,024
unfoldable pub length_sound : ℕ → Bool
length_sound n = eqb (n % cell_numbers) 0 && leb 1 (n / cell_numbers) && leb (n / cell_numbers) 1024

abbrev pub table_sound : List ℕ → Bool
table_sound rates = length_sound (length rates)

-- recovery plus death rate is at most 1,000,000 at the n durations from 2 on
unfoldable pub rates_sound_to : List ℕ → ℕ → ℕ → Bool
rates_sound_to rates cell zero = true
rates_sound_to rates cell (suc n) =
    rates_sound_to rates cell n && leb (recovery_rate rates cell (n + 2) + death_rate rates cell (n + 2)) 1000000

-- 8, rate: recovery plus death rate of some duration of that cell over 1,000,000
unfoldable pub rates_sound : List ℕ → ℕ → Bool
rates_sound rates cell = rates_sound_to rates cell 479

-- the number of the first of the checks 6, 7 (cell not in the table) and 8 that fails, or 0
unfoldable pub rate_check : List ℕ → ℕ → ℕ
rate_check rates cell =
    check (table_sound rates) refuse_rate_table
    then check (ltb cell (cells rates)) refuse_cell
    then check (rates_sound rates cell) refuse_rate

-- The duration groups: 1 to 3 months; 4 to 24; 25 to 60; 61 to 120; above
unfoldable pub group_of : ℕ → ℕ
group_of d = pick (leb d 3) 1 (pick (leb d 24) 2 (pick (leb d 60) 3 (pick (leb d 120) 4 5)))

-- the last duration of a duration's group; a group without a last has 2³² − 1
unfoldable pub group_last : ℕ → ℕ
group_last d = pick (leb d 3) 3 (pick (leb d 24) 24 (pick (leb d 60) 60 (pick (leb d 120) 120 4294967295)))

-- the last duration of a group; one without a last has 2³² − 1
unfoldable pub last_of : ℕ → ℕ
last_of g = pick (eqb g 1) 3 (pick (eqb g 2) 24 (pick (eqb g 3) 60 (pick (eqb g 4) 120 4294967295)))
