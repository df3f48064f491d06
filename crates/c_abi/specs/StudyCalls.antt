-- The calls on a study that is a lent list of numbers: ltd_open, ltd_add, ltd_withdraw and ltd_join, and ltd_prepared_add and ltd_prepared_withdraw.
-- `proofs/StudyCalls.antt` proves `ListStands` and `SameCalls`.
use Rattle.std.specs.Prelude.{ℕ, ◌+◌, ◌≤◌, ◌≡◌, Bool, ◌&&◌, List, ◌++◌, length, get_or, leb, eqb, ℤ, pos, negsuc, None, Option, Some}
use Rattle.std.proofs.lemmas.List.Edits.{sets}
use Rattle.basics.specs.Pick.{pick}
use Rattle.basics.specs.Limits.{most_claims, no_form}
use Rattle.basics.specs.Tables.{table}
use Rattle.calendar.specs.Calendar.{last_day_number}
use Rattle.claim_months.specs.declared.Claim.{Claim}
use Rattle.rates.specs.declared.Kind.{Kind}
use Rattle.rates.specs.declared.Kind.TheVariants.{Plain, Prepared}
use Rattle.rates.specs.design.Prepared.{prepared_of}
use Rattle.study.specs.declared.Study.{Study}
use Rattle.study.specs.Answers.{Answer}
use Rattle.study.specs.Study.{opened, added}
use Rattle.study.specs.Joining.{joined}
use Rattle.study.specs.design.PreparedAdding.{added_with}
use Rattle.study.specs.Withdrawing.{withdrawn}
use Rattle.study.specs.design.PreparedWithdrawing.{withdrawn_with}
use Rattle.claim_file.specs.BlockAnswers.{record_in}
use Rattle.study_list.specs.Lent.{answered, stored}
use Rattle.study_list.specs.StudyList.{study_numbers}
use Rattle.c_abi.specs.declared.Change.{Change}
use Rattle.c_abi.specs.declared.Change.TheVariants.{Add, Withdraw}
use Rattle.c_abi.specs.Abi.{date_in}

-- a list that has the form of a study: 83 numbers or more
unfoldable pub study_form : List ℤ → Bool
study_form xs = leb 83 (length xs)

-- a number from 0 to the most that its field may hold. Any other is read as one more than that, which the study's own check refuses: a day past the
-- calendar under 1, more claims taken than a study may have under 9
unfoldable pub held_up_to : ℕ → ℤ → ℕ
held_up_to most (pos n) = pick (leb n most) n (most + 1)
held_up_to most (negsuc n) = most + 1

-- the sums that stand in a study's list behind days and claims taken
unfoldable pub sums_in : List ℤ → List ℤ
sums_in xs = table 80 (λ k. get_or xs (k + 3) (pos 0))

-- the study that a list holds
unfoldable pub study_in : List ℤ → Study
study_in xs =
    record {
      window =
          record {
            first = record { 0 = held_up_to last_day_number (get_or xs 0 (pos 0)) };
            last = record { 0 = held_up_to last_day_number (get_or xs 1 (pos 0)) };
          };
      taken = held_up_to most_claims (get_or xs 2 (pos 0));
      sums = sums_in xs;
    }

-- a list stands for its study: numbers that a call wrote are read back as the study that it wrote them of
abbrev pub ListStands : Type 0
ListStands =
    (s : Study) (rest : List ℤ) → s.window.first.0 ≤ last_day_number → s.window.last.0 ≤ last_day_number → s.taken ≤ most_claims
    → length s.sums ≡ 80 → study_in (study_numbers s ++ rest) ≡ s

-- ltd_open: 255 for a list that has not the form of a study; the list afterwards has the study that opening gives, refused or not
abbrev pub open_answer : ℕ → ℕ → List ℤ → ℕ
open_answer first last xs = answered 83 xs (opened (date_in first) (date_in last)).refused

abbrev pub open_after : ℕ → ℕ → List ℤ → List ℤ
open_after first last xs = stored 83 xs (sets xs 0 (study_numbers (opened (date_in first) (date_in last)).study))

-- what a study makes of a claim with some rates: adding it, or withdrawing it
abbrev pub Taking : Type 0
Taking = Study → Claim → List ℕ → Answer

-- ltd_add and ltd_withdraw, ltd_prepared_add and ltd_prepared_withdraw, as their contracts have them
unfoldable pub changed_by : Change → Kind → Taking
changed_by Add Plain = added
changed_by Withdraw Plain = withdrawn
changed_by Add Prepared = added_with Prepared
changed_by Withdraw Prepared = withdrawn_with Prepared

-- the same of the claim of a record: 255 where the list has no record
unfoldable pub taken_from : Taking → Study → Option Claim → List ℕ → Answer
taken_from take s (Some c) rates = take s c rates
taken_from take s None rates = record { refused = no_form; study = s }

-- a change of a study's list: 255 where what is lent has not its form; the list afterwards, untouched by any refusal
abbrev pub form_answer : Bool → Answer → ℕ
form_answer form a = pick form a.refused no_form

abbrev pub form_after : Bool → List ℤ → Answer → List ℤ
form_after form xs a = pick (eqb (form_answer form a) 0) (sets xs 0 (study_numbers a.study)) xs

-- ltd_add, ltd_withdraw and the calls with a prepared table, of a study and a record
unfoldable pub claim_answer : Taking → List ℤ → List ℕ → List ℕ → ℕ
claim_answer take xs claim rates = form_answer (study_form xs) (taken_from take (study_in xs) (record_in claim 0) rates)

unfoldable pub claim_after : Taking → List ℤ → List ℕ → List ℕ → List ℤ
claim_after take xs claim rates = form_after (study_form xs) xs (taken_from take (study_in xs) (record_in claim 0) rates)

-- With a table prepared of some rates ltd_prepared_add is ltd_add with these rates, and ltd_prepared_withdraw is ltd_withdraw: in the answer and
-- in the list, for all lists
abbrev pub AsWithRates : Taking → Taking → Type 0
AsWithRates take plain =
    (xs : List ℤ) (claim rates : List ℕ)
    → (claim_answer take xs claim (prepared_of rates) ≡ claim_answer plain xs claim rates)
    × (claim_after take xs claim (prepared_of rates) ≡ claim_after plain xs claim rates)

pub record SameCalls : Type 0 where
  pub adding : AsWithRates (changed_by Add Prepared) added
  pub withdrawing : AsWithRates (changed_by Withdraw Prepared) withdrawn

-- ltd_join, of two studies: the first list afterwards
unfoldable pub join_answer : List ℤ → List ℤ → ℕ
join_answer xs ys = form_answer (study_form xs && study_form ys) (joined (study_in xs) (study_in ys))

unfoldable pub join_after : List ℤ → List ℤ → List ℤ
join_after xs ys = form_after (study_form xs && study_form ys) xs (joined (study_in xs) (study_in ys))
