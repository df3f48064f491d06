-- Demand 3 of the C calls themselves, word for word: `CallsAddUp` says of ltd_open and ltd_add, and of ltd_open and ltd_prepared_add, on lists of numbers and
-- records of bytes, what `AddsUp` of `crates/study/specs/Demand3.antt` says of studies and claims. `proofs/CallsAddUp.antt` proves it.
use Rattle.std.specs.Prelude.{ℕ, ◌+◌, ◌≤◌, ◌<◌, ◌≡◌, true, false, List, [], ◌∷◌, ◌⊎◌, length, get_or, drop, eqb, ℤ, pos, ◌+ℤ◌, ◌-ℤ◌, ◌*ℤ◌, None, Some}
use Rattle.basics.specs.Pick.{pick}
use Rattle.basics.specs.Limits.{most_claims, no_form}
use Rattle.claim_months.specs.declared.Claim.{Claim}
use Rattle.claim_months.specs.declared.Window.{Window}
use Rattle.claim_months.specs.Claim.{weight}
use Rattle.claim_months.specs.Windows.{Parts, total, EveryPart, NoPart, ExactlyOnePart}
use Rattle.rates.specs.declared.Kind.{Kind}
use Rattle.rates.specs.declared.Kind.TheVariants.{Plain, Prepared}
use Rattle.rates.specs.design.Prepared.{prepared_of}
use Rattle.study.specs.Sums.{ClosingPlace}
use Rattle.study.specs.Study.{own_refusal, accepted, study_of}
use Rattle.study.specs.Demand3.{StudyRun, run_window, IsOrder, nth_claim, closes_in}
use Rattle.claim_file.specs.BlockAnswers.{record_in}
use Rattle.c_abi.specs.declared.Change.TheVariants.{Add}
use Rattle.c_abi.specs.Abi.{date_in}
use Rattle.c_abi.specs.StudyCalls.{changed_by, open_answer, open_after, claim_answer, claim_after}
use Rattle.c_abi.specs.CallChains.{sum_in, Stands}

-- the table that the calls of a kind are lent: the rates, or what ltd_prepare made of them
unfoldable pub table_of : Kind → List ℕ → List ℕ
table_of Plain rates = rates
table_of Prepared rates = prepared_of rates

-- ltd_add or ltd_prepared_add of a record: the answer, and the list afterwards
abbrev pub add_answer : Kind → List ℕ → List ℤ → List ℕ → ℕ
add_answer kind rates xs bytes = claim_answer (changed_by Add kind) xs bytes (table_of kind rates)

abbrev pub add_after : Kind → List ℕ → List ℤ → List ℕ → List ℤ
add_after kind rates xs bytes = claim_after (changed_by Add kind) xs bytes (table_of kind rates)

-- One run: the two dates, as the calls take them, the list that ltd_open is lent, and the order in which that list gets the places of the records
pub record CallRun : Type 0 where
  pub first : ℕ
  pub last : ℕ
  pub lent : List ℤ
  pub order : List ℕ

-- the run of studies that it stands for, and its window
abbrev pub study_run : CallRun → StudyRun
study_run r = record { first = date_in r.first; last = date_in r.last; order = r.order }

abbrev pub call_window : CallRun → Window
call_window r = run_window (study_run r)

-- ltd_open answers 0, so the list has 83 numbers or more, and the list gets each of n places once
abbrev pub CallOpens : ℕ → CallRun → Type 0
CallOpens n r = (open_answer r.first r.last r.lent ≡ 0) × IsOrder n r.order

-- the bytes at a place of the records, and that those at each place of some claims are the claim's record
abbrev pub record_at : List (List ℕ) → ℕ → List ℕ
record_at records i = get_or records i []

abbrev pub RecordsOf : List (List ℕ) → List Claim → Type 0
RecordsOf records claims = (i : ℕ) → i < length claims → record_in (record_at records i) 0 ≡ Some (nth_claim claims i)

-- the list after the calls of an order, and the list that the call of place i is lent: each call gets the list that the one before it left
unfoldable pub list_after : Kind → List ℕ → List (List ℕ) → List ℤ → List ℕ → List ℤ
list_after kind rates records xs [] = xs
list_after kind rates records xs (p ∷ ps) = list_after kind rates records (add_after kind rates xs (record_at records p)) ps

unfoldable pub list_given_to : Kind → List ℕ → List (List ℕ) → ℕ → List ℤ → List ℕ → List ℤ
list_given_to kind rates records i xs [] = xs
list_given_to kind rates records i xs (p ∷ ps) =
    pick (eqb p i) xs (list_given_to kind rates records i (add_after kind rates xs (record_at records p)) ps)

-- a run starts with the list that ltd_open left
unfoldable pub last_list : Kind → List ℕ → List (List ℕ) → CallRun → List ℤ
last_list kind rates records r = list_after kind rates records (open_after r.first r.last r.lent) r.order

unfoldable pub list_given_at : Kind → List ℕ → List (List ℕ) → ℕ → CallRun → List ℤ
list_given_at kind rates records i r = list_given_to kind rates records i (open_after r.first r.last r.lent) r.order

-- what a run's call of place i answers, and by how much it changes the sum k of the list
unfoldable pub call_answer_at : Kind → List ℕ → List (List ℕ) → ℕ → CallRun → ℕ
call_answer_at kind rates records i r = add_answer kind rates (list_given_at kind rates records i r) (record_at records i)

abbrev pub list_change : Kind → List ℕ → List (List ℕ) → ℕ → CallRun → ℕ → ℤ
list_change kind rates records i r k =
    let given = list_given_at kind rates records i r in
    sum_in (add_after kind rates given (record_at records i)) k -ℤ sum_in given k

-- the record at place i is counted as closed in a run: its call there makes one closing count of one group higher by one, and no other; its call leaves all
-- closing counts as they were; it changes each closing sum of the weighted set by the claim's weight times the change of the count
abbrev pub CallCounts : Kind → List ℕ → List (List ℕ) → ℕ → CallRun → Type 0
CallCounts kind rates records i r =
    (k₀ : ℕ) × ClosingPlace k₀ × ((k : ℕ) → ClosingPlace k → list_change kind rates records i r k ≡ pick (eqb k k₀) (pos 1) (pos 0))

abbrev pub CallLeaves : Kind → List ℕ → List (List ℕ) → ℕ → CallRun → Type 0
CallLeaves kind rates records i r = (k : ℕ) → ClosingPlace k → list_change kind rates records i r k ≡ pos 0

abbrev pub CallWeighs : Kind → List ℕ → List (List ℕ) → Claim → ℕ → CallRun → Type 0
CallWeighs kind rates records c i r =
    (k : ℕ) → ClosingPlace k → list_change kind rates records i r (k + 40) ≡ pos (weight c) *ℤ list_change kind rates records i r k

-- What demand 3 says of a kind of table, rates, a list of records and of the claims that they are of, the run over the undivided window, and the runs over
-- its parts
pub record CallsAddUp (kind : Kind) (rates : List ℕ) (records : List (List ℕ)) (claims : List Claim) (whole part : CallRun) (parts : List CallRun) : Type 0 where
  -- 1. At each of the 80 places behind the third the numbers of the parts' lists total exactly that of the undivided window's list
  pub sums : (k : ℕ) → k < 80
      → total ◌+ℤ◌ (λ r. sum_in (last_list kind rates records r) k) part parts ≡ sum_in (last_list kind rates records whole) k
  -- 2. Every place gets the same answer in each run: the number that its claim and the rates have by themselves
  pub answer : (i : ℕ) → i < length claims → call_answer_at kind rates records i whole ≡ own_refusal rates (nth_claim claims i)
  pub same_answer : (i : ℕ) → i < length claims
      → EveryPart (λ r. call_answer_at kind rates records i r ≡ call_answer_at kind rates records i whole) part parts
  -- 3. An accepted claim that is closed in the undivided window is counted as closed there and in exactly one part, and leaves the closing counts of every
  -- other part as they were; any other claim leaves those of every list as they were
  pub counted : (i : ℕ) → i < length claims → closes_in rates (nth_claim claims i) (study_run whole) ≡ true
      → CallCounts kind rates records i whole × ExactlyOnePart (CallCounts kind rates records i) part parts
      × EveryPart (λ r. CallCounts kind rates records i r ⊎ CallLeaves kind rates records i r) part parts
  pub not_counted : (i : ℕ) → i < length claims → closes_in rates (nth_claim claims i) (study_run whole) ≡ false
      → CallLeaves kind rates records i whole × EveryPart (CallLeaves kind rates records i) part parts
      × (CallCounts kind rates records i whole → ⊥) × NoPart (CallCounts kind rates records i) part parts
  -- and in the weighted set every claim's closing counts with its weight, in each list
  pub weighted_closings : (i : ℕ) → i < length claims
      → CallWeighs kind rates records (nth_claim claims i) i whole × EveryPart (CallWeighs kind rates records (nth_claim claims i) i) part parts
  -- 4. Each last list stands for the study of its window and the accepted claims, and the numbers behind its 83rd are those that were lent
  pub whole_study : Stands (last_list kind rates records whole) (study_of (call_window whole) rates (accepted rates claims))
  pub part_studies : EveryPart (λ r. Stands (last_list kind rates records r) (study_of (call_window r) rates (accepted rates claims))) part parts
  pub behind : drop 83 (last_list kind rates records whole) ≡ drop 83 whole.lent
  pub parts_behind : EveryPart (λ r. drop 83 (last_list kind rates records r) ≡ drop 83 r.lent) part parts

pub record CallsDemand3 : Type 0 where
  -- it holds of everything that the calls can be given, with plain rates and with a prepared table
  pub adds_up : (kind : Kind) (rates : List ℕ) (records : List (List ℕ)) (claims : List Claim) (whole part : CallRun) (parts : List CallRun)
      → length claims ≤ most_claims → RecordsOf records claims → CallOpens (length claims) whole
      → Parts (CallOpens (length claims)) call_window (call_window whole).first.0 (call_window whole).last.0 part parts
      → CallsAddUp kind rates records claims whole part parts
  -- bytes that are no record are answered 255 by every list, which stays as it is: so they may stand anywhere among the calls
  pub no_record : (kind : Kind) (rates : List ℕ) (xs : List ℤ) (bytes : List ℕ) → record_in bytes 0 ≡ None
      → (add_answer kind rates xs bytes ≡ no_form) × (add_after kind rates xs bytes ≡ xs)
