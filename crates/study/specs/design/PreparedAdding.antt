-- Adding with a rate table of either kind. With plain rates it is document 01's adding; with the prepared table of some rates it is adding
-- with these rates, number for number.
use Rattle.std.specs.Prelude.{ℕ, ◌+◌, List, ℤ}
use Rattle.basics.specs.Checks.{◌then◌}
use Rattle.basics.specs.Tables.{table}
use Rattle.claim_months.specs.declared.Claim.{Claim}
use Rattle.claim_months.specs.declared.Window.{Window}
use Rattle.claim_months.specs.Claim.{claim_check, weight}
use Rattle.claim_months.specs.Exposure.{month_records}
use Rattle.claim_months.specs.Windows.{window_check}
use Rattle.rates.specs.declared.Kind.{Kind}
use Rattle.rates.specs.design.Prepared.{table_check_of, recovery_of, death_of}
use Rattle.study.specs.declared.Study.{Study}
use Rattle.study.specs.Answers.{Answer}
use Rattle.study.specs.Sums.{plus}
use Rattle.study.specs.Study.{record_sums, room_check, study_answer}

-- a claim's share of a study, with the table's rates of its cell
unfoldable pub share_with : Kind → Window → List ℕ → Claim → List ℤ
share_with kind w table c =
    record_sums (recovery_of kind table c.cell) (death_of kind table c.cell) (weight c) (month_records c w.first.0 w.last.0)

-- the number of the first of the checks 1 to 9 and 16 that fails, or 0
unfoldable pub add_check_with : Kind → Study → Claim → List ℕ → ℕ
add_check_with kind s c table =
    window_check s.window.first.0 s.window.last.0
    then claim_check c
    then table_check_of kind table c.cell
    then room_check s

-- a study by its parts, of which the sums may be lent
abbrev pub lent_study : Window → ℕ → List ℤ → Study
lent_study w taken sums = record { window = w; taken = taken; sums = sums }

-- adding, on every list of numbers as a table
unfoldable pub added_with : Kind → Study → Claim → List ℕ → Answer
added_with kind s c table =
    study_answer (add_check_with kind s c table) s (lent_study s.window (s.taken + 1) (plus s.sums (share_with kind s.window table c)))
