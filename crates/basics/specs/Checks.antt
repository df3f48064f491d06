-- Document 01, the table of refusals, and the numbers that document 02 adds: each under its word, and the first check that failed.
use Rattle.std.specs.Prelude.{ℕ, Bool, eqb}
use Rattle.basics.specs.Pick.{pick}

-- the numbers of the table, under its words
abbrev pub refuse_window : ℕ
refuse_window = 1

abbrev pub refuse_date : ℕ
refuse_date = 2

abbrev pub refuse_status : ℕ
refuse_status = 3

abbrev pub refuse_sequence : ℕ
refuse_sequence = 4

abbrev pub refuse_short_elimination : ℕ
refuse_short_elimination = 5

abbrev pub refuse_rate_table : ℕ
refuse_rate_table = 6

abbrev pub refuse_cell : ℕ
refuse_cell = 7

abbrev pub refuse_rate : ℕ
refuse_rate = 8

abbrev pub refuse_full : ℕ
refuse_full = 9

abbrev pub refuse_short_list : ℕ
refuse_short_list = 10

abbrev pub refuse_block : ℕ
refuse_block = 11

abbrev pub refuse_valuation : ℕ
refuse_valuation = 12

abbrev pub refuse_discount : ℕ
refuse_discount = 13

-- document 02, request No. 1: a file of a run with corrections has more than 60,000 records
abbrev pub refuse_too_many_records : ℕ
refuse_too_many_records = 14

-- document 02, request No. 3: the windows of two studies to be joined differ
abbrev pub refuse_other_window : ℕ
refuse_other_window = 15

-- document 02, request No. 7: a benefit over 200
abbrev pub refuse_benefit : ℕ
refuse_benefit = 16

-- document 02, request No. 9: a list of open claims that is too long or has a part claim at its end, or a duration of 24 or less
abbrev pub refuse_open_claims : ℕ
refuse_open_claims = 17

-- document 02, request No. 10: a study with no claims, or one in which a count or a weighted closing sum would fall below zero
abbrev pub refuse_withdrawal : ℕ
refuse_withdrawal = 18

-- document 02, request No. 11: no count reaches the wanted factor
abbrev pub refuse_no_count : ℕ
refuse_no_count = 19

-- document 02, request No. 13: a seed, a size or a claim number that no load has
abbrev pub refuse_load : ℕ
refuse_load = 20

-- a check: 0 where the test says that all is sound, else its number
abbrev pub check : Bool → ℕ → ℕ
check sound number = pick sound 0 number

infixr 5 ◌then◌
-- a then b: the number of the first check that failed, which is a unless a is 0
unfoldable pub ◌then◌ : ℕ → ℕ → ℕ
a then b = pick (eqb a 0) b a
