-- The number of a refusal in the papers' table, and answers by number: the definitions of all layers say numbers, as the papers do.
use Rattle.std.specs.Prelude.{ℕ, Option, Some, None, Result, Ok, Err}
use Rattle.basics.specs.declared.refusal.Refusal.{Refusal}
use Rattle.basics.specs.declared.refusal.Refusal.TheVariants.{Window, Date, Status, Sequence, ShortElimination, RateTable, Cell, Rate, Full, ShortList, Block, Valuation, Discount, TooManyRecords, OtherWindow, Benefit, OpenClaims, Withdrawal, NoCount, Load}
use Rattle.basics.specs.Checks.{refuse_window, refuse_date, refuse_status, refuse_sequence, refuse_short_elimination, refuse_rate_table, refuse_cell, refuse_rate, refuse_full, refuse_short_list, refuse_block, refuse_valuation, refuse_discount, refuse_too_many_records, refuse_other_window, refuse_benefit, refuse_open_claims, refuse_withdrawal, refuse_no_count, refuse_load}

-- the number of each
abbrev pub number_of : Refusal → ℕ
number_of Window = refuse_window
number_of Date = refuse_date
number_of Status = refuse_status
number_of Sequence = refuse_sequence
number_of ShortElimination = refuse_short_elimination
number_of RateTable = refuse_rate_table
number_of Cell = refuse_cell
number_of Rate = refuse_rate
number_of Full = refuse_full
number_of ShortList = refuse_short_list
number_of Block = refuse_block
number_of Valuation = refuse_valuation
number_of Discount = refuse_discount
number_of TooManyRecords = refuse_too_many_records
number_of OtherWindow = refuse_other_window
number_of Benefit = refuse_benefit
number_of OpenClaims = refuse_open_claims
number_of Withdrawal = refuse_withdrawal
number_of NoCount = refuse_no_count
number_of Load = refuse_load

-- the number of the first check that failed, or 0
abbrev pub number_refused : {A : Type 0} → Result A Refusal → ℕ
number_refused (Ok x) = 0
number_refused (Err r) = number_of r

-- an answer, or the number refused
abbrev pub numbered : {A : Type 0} → Result A Refusal → Result A ℕ
numbered (Ok x) = Ok x
numbered (Err r) = Err (number_of r)

-- the number of a refusal, if there was one, or 0
abbrev pub number_in : Option Refusal → ℕ
number_in None = 0
number_in (Some r) = number_of r
