-- The limits of documents 01 and 02, under names.
use Rattle.std.specs.Prelude.{ℕ}

-- claims in a study, and so a closing count
abbrev pub most_claims : ℕ
most_claims = 500000

-- check 9: thirtieths of a group, and expected recoveries or deaths of one, from minus to plus
abbrev pub most_thirtieths : ℕ
most_thirtieths = 27000000000

abbrev pub most_expected : ℕ
most_expected = 27000000000000000

-- a benefit in hundreds of dollars a month, and so how often a claim counts in the weighted set
abbrev pub most_benefit : ℕ
most_benefit = 200

-- records of a run with corrections
abbrev pub most_records : ℕ
most_records = 60000

-- rows of a claim file, one for each month of duration
abbrev pub most_rows : ℕ
most_rows = 2000

-- open claims that the limit on reserves is judged on
abbrev pub most_open_claims : ℕ
most_open_claims = 2000

-- bytes of a block of the claim file
abbrev pub block_bytes : ℕ
block_bytes = 512

-- numbers of a cell of the rate table: 479 recovery rates and 479 death rates
abbrev pub cell_numbers : ℕ
cell_numbers = 958

-- the last duration with rates of its own
abbrev pub last_duration : ℕ
last_duration = 480

-- what a call answers where a lent list has not its length, or a record not its form
abbrev pub no_form : ℕ
no_form = 255
