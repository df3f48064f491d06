-- Document 01, Figures to hold it to: what the program prints, as bytes.
use Rattle.std.specs.Prelude.{ℕ, zero, suc, ◌/◌, List, [], ◌∷◌, ◌++◌, length, drop, leb, ltb, eqb, ℤ, pos, negsuc, Err, Ok, Result}
use Rattle.report.specs.Digits.{last_digits}
use Rattle.basics.specs.Pick.{pick}
use Rattle.study.specs.Sums.{sum_at}
use Rattle.valuation.specs.StudyFactor.{study_factor}
use Rattle.claim_file.specs.Runs.{FileRun}
use Rattle.valuation.specs.declared.GroupFactor.{GroupFactor}

-- how many decimal digits a number has: at most `more` of them past the first, and no zeros in front
unfoldable pub places_up_to : ℕ → ℕ → ℕ
places_up_to zero n = 1
places_up_to (suc more) n = pick (ltb n 10) 1 (suc (places_up_to more (n / 10)))

-- 20 digits hold every number of 64 bits
unfoldable pub places : ℕ → ℕ
places n = places_up_to 19 n

-- a number's decimal digits, and those of a signed one, with a minus sign before the size of a negative number
unfoldable pub number_text : ℕ → List ℕ
number_text n = last_digits 10 (places n) n

unfoldable pub signed_text : ℤ → List ℕ
signed_text (pos n) = number_text n
signed_text (negsuc n) = 45 ∷ number_text (suc n)

-- a column behind the first: a space and its number
unfoldable pub count_column : ℕ → List ℕ
count_column n = 32 ∷ number_text n

unfoldable pub sum_column : ℤ → List ℕ
sum_column z = 32 ∷ signed_text z

-- the first n columns of a group: thirtieths; the counts of recoveries, deaths, settlements, max-outs, limits; both expected sums
unfoldable pub sum_columns : List ℤ → ℕ → ℕ → List ℕ
sum_columns sums group zero = []
sum_columns sums group (suc n) = sum_columns sums group n ++ sum_column (sum_at sums group n)

-- T, and nothing where it is refused
unfoldable pub factor_column : Result GroupFactor ℕ → List ℕ
factor_column (Ok f) = count_column f.t
factor_column (Err n) = []

-- the line of a group
unfoldable pub group_line : List ℤ → ℕ → List ℕ
group_line sums group = number_text group ++ (sum_columns sums group 8 ++ (factor_column (study_factor sums group) ++ (10 ∷ [])))

-- "group exposure rec dea set max lim exprec expdea T" and the line's end
unfoldable pub table_head : List ℕ
table_head =
    103 ∷ 114 ∷ 111 ∷ 117 ∷ 112 ∷ 32 ∷ 101 ∷ 120 ∷ 112 ∷ 111 ∷ 115 ∷ 117 ∷ 114 ∷ 101 ∷ 32 ∷ 114 ∷ 101 ∷ 99 ∷ 32 ∷ 100 ∷ 101 ∷ 97 ∷ 32 ∷ 115 ∷ 101
    ∷ 116 ∷ 32 ∷ 109 ∷ 97 ∷ 120 ∷ 32 ∷ 108 ∷ 105 ∷ 109 ∷ 32 ∷ 101 ∷ 120 ∷ 112 ∷ 114 ∷ 101 ∷ 99 ∷ 32 ∷ 101 ∷ 120 ∷ 112 ∷ 100 ∷ 101 ∷ 97 ∷ 32
    ∷ 84 ∷ 10 ∷ []

-- the table: the head and the lines of the five groups
unfoldable pub table_text : List ℤ → List ℕ
table_text sums = table_head ++ (group_line sums 1 ++ (group_line sums 2 ++ (group_line sums 3 ++ (group_line sums 4 ++ group_line sums 5))))

-- "refused N block B claim C" and the line's end
unfoldable pub refusal_line : ℕ → ℕ → ℕ → List ℕ
refusal_line number block place =
    (114 ∷ 101 ∷ 102 ∷ 117 ∷ 115 ∷ 101 ∷ 100 ∷ [])
    ++ (count_column number
    ++ ((32 ∷ 98 ∷ 108 ∷ 111 ∷ 99 ∷ 107 ∷ []) ++ (count_column block ++ ((32 ∷ 99 ∷ 108 ∷ 97 ∷ 105 ∷ 109 ∷ []) ++ (count_column place ++ (10 ∷ []))))))

-- what a run prints: its table, or only where it was refused
unfoldable pub run_text : FileRun → List ℕ
run_text r = pick (eqb r.refused 0) (table_text r.study.sums) (refusal_line r.refused r.block r.place)

-- its lines, one by one: 0 is the table's head, or where the run was refused; 1 to 5 are those of the groups, of which a refused run has none
unfoldable pub run_line : FileRun → ℕ → List ℕ
run_line r k =
    pick (eqb r.refused 0) (pick (eqb k 0) table_head (pick (leb k 5) (group_line r.study.sums k) []))
    (pick (eqb k 0) (refusal_line r.refused r.block r.place) [])

-- a line put into a lent list of at least `asked` bytes: its length is answered, and the list begins with it and is otherwise unchanged; a shorter
-- list is answered 0, and keeps what it holds
unfoldable pub line_answer : ℕ → List ℕ → List ℕ → ℕ
line_answer asked old line = pick (ltb (length old) asked) 0 (length line)

unfoldable pub line_after : ℕ → List ℕ → List ℕ → List ℕ
line_after asked old line = pick (ltb (length old) asked) old (line ++ drop (length line) old)
