-- Document 01, Months of exposure: the listing, six signed numbers per month record.
use Rattle.std.specs.Prelude.{ℕ, ◌*◌, List, [], ◌∷◌, ◌++◌, length, drop, leb, eqb, ℤ, pos, Err, Ok, Result}
use Rattle.calendar.specs.declared.Date.{Date}
use Rattle.basics.specs.Pick.{pick}
use Rattle.basics.specs.Checks.{check, ◌then◌, refuse_window, refuse_short_list}
use Rattle.calendar.specs.Calendar.{day_number, month_of}
use Rattle.claim_months.specs.declared.Claim.{Claim}
use Rattle.claim_months.specs.Claim.{claim_check}
use Rattle.claim_months.specs.Windows.{dates_window}
use Rattle.claim_months.specs.Exposure.{MonthRecord, thirtieths, month_records}

-- the six numbers of a record: duration, first day, last day, thirtieths, year × 12 + month − 1 of that first day, category
unfoldable pub row : MonthRecord → List ℤ
row r = pos r.duration ∷ pos r.first ∷ pos r.last ∷ thirtieths r ∷ pos (month_of r.first) ∷ pos r.category ∷ []

unfoldable pub rows : List MonthRecord → List ℤ
rows [] = []
rows (r ∷ rs) = row r ++ rows rs

-- the records of the window between two dates
unfoldable pub listed_records : Date → Date → Claim → List MonthRecord
listed_records b e c = month_records c (day_number b) (day_number e)

-- the number of the first of the checks 1 to 5 and 10 (lent list under six numbers per month) that fails, or 0
unfoldable pub listing_check : Date → Date → Claim → ℕ → ℕ
listing_check b e c n =
    check (dates_window b e) refuse_window
    then claim_check c
    then check (leb (6 * length (listed_records b e c)) n) refuse_short_list

-- the answer of a listing into a list of n numbers: the number of records, or the number refused
unfoldable pub listing_of : Date → Date → Claim → ℕ → Result ℕ ℕ
listing_of b e c n =
    pick (eqb (listing_check b e c n) 0) (Ok (length (listed_records b e c))) (Err (listing_check b e c n))

-- the lent list afterwards: the records, and past them what stood there; untouched by a refusal
unfoldable pub list_after : Date → Date → Claim → List ℤ → List ℤ
list_after b e c old =
    pick (eqb (listing_check b e c (length old)) 0)
    (rows (listed_records b e c) ++ drop (6 * length (listed_records b e c)) old) old
