-- Demand 3, the statement: do the studies of the parts of a window always add up to the study of the whole window, for every list of
-- claims, and is each closing counted in one part only? `AddsUp` says it; `crates/study/proofs/Demand3.antt` proves it of every window
-- that opening accepts, every way to cut it, every list of up to 500,000 claims, every rate table, and every order for each study.
use Rattle.std.specs.Prelude.{ℕ, ◌+◌, ◌≤◌, ◌<◌, ◌≡◌, Bool, true, false, ◌&&◌, List, [], ◌∷◌, ◌⊎◌, length, get_or, ltb, eqb, ℤ, pos, ◌-ℤ◌, ◌*ℤ◌}
use Rattle.basics.specs.Pick.{pick}
use Rattle.basics.specs.Limits.{most_claims}
use Rattle.calendar.specs.declared.Date.{Date}
use Rattle.claim_months.specs.declared.Claim.{Claim}
use Rattle.claim_months.specs.declared.Window.{Window}
use Rattle.claim_months.specs.Claim.{weight}
use Rattle.claim_months.specs.Exposure.{closed_in}
use Rattle.claim_months.specs.Windows.{between, Parts, total, EveryPart, NoPart, ExactlyOnePart}
use Rattle.study.specs.declared.Study.{Study}
use Rattle.study.specs.Sums.{ClosingPlace, plus}
use Rattle.study.specs.Study.{own_refusal, accepted, study_of, opened, added}

-- One study of the list: the two dates that it is opened with, and the order in which it gets the places of the list
pub record StudyRun : Type 0 where
  pub first : Date
  pub last : Date
  pub order : List ℕ

-- a run's window
abbrev pub run_window : StudyRun → Window
run_window r = between r.first r.last

-- how often a place stands in an order
unfoldable pub occurrences : ℕ → List ℕ → ℕ
occurrences i [] = 0
occurrences i (x ∷ xs) = pick (eqb x i) 1 0 + occurrences i xs

-- an order of n places has each of the places 0 to n − 1 once, and nothing else
abbrev pub IsOrder : ℕ → List ℕ → Type 0
IsOrder n order = (i : ℕ) → occurrences i order ≡ pick (ltb i n) 1 0

-- opening accepts the run's window, and the run gets each of n places once
abbrev pub Opens : ℕ → StudyRun → Type 0
Opens n r = ((opened r.first r.last).refused ≡ 0) × IsOrder n r.order

-- the claim at a place of the list. (Past the list, where no order goes, a claim of zeros)
unfoldable pub nth_claim : List Claim → ℕ → Claim
nth_claim claims i =
    let no-date : Date = record { year = 0; month = 0; day = 0 } in
    get_or claims i
    (record { number = 0; disability = no-date; bcd = no-date; termination = no-date; maximum = no-date; status = 0; code = 0; cell = 0; benefit = 0 })

-- the study after the additions of an order: each gets the study that the one before it returned, refused or not, and the same rates
unfoldable pub after : List ℕ → List Claim → Study → List ℕ → Study
after rates claims s [] = s
after rates claims s (x ∷ xs) = after rates claims (added s (nth_claim claims x) rates).study xs

-- the study that the addition of place i is given
unfoldable pub given_to : List ℕ → List Claim → ℕ → Study → List ℕ → Study
given_to rates claims i s [] = s
given_to rates claims i s (x ∷ xs) = pick (eqb x i) s (given_to rates claims i (added s (nth_claim claims x) rates).study xs)

-- a run starts with the study as opening returned it. Its last study, and the study that its addition of place i is given
unfoldable pub last_study : List ℕ → List Claim → StudyRun → Study
last_study rates claims r = after rates claims (opened r.first r.last).study r.order

unfoldable pub given_at : List ℕ → List Claim → ℕ → StudyRun → Study
given_at rates claims i r = given_to rates claims i (opened r.first r.last).study r.order

-- the number that a run's addition of place i answers
unfoldable pub answer_at : List ℕ → List Claim → ℕ → StudyRun → ℕ
answer_at rates claims i r = (added (given_at rates claims i r) (nth_claim claims i) rates).refused

-- by how much a run's addition of place i changes the sum at place k
abbrev pub change : List ℕ → List Claim → ℕ → StudyRun → ℕ → ℤ
change rates claims i r k =
    let given = given_at rates claims i r in
    get_or (added given (nth_claim claims i) rates).study.sums k (pos 0) -ℤ get_or given.sums k (pos 0)

-- the claim at place i is counted as closed in a run: its addition there makes one closing count of one group higher by one, and no other
abbrev pub CountedClosed : List ℕ → List Claim → ℕ → StudyRun → Type 0
CountedClosed rates claims i r =
    (k₀ : ℕ) × ClosingPlace k₀ × ((k : ℕ) → ClosingPlace k → change rates claims i r k ≡ pick (eqb k k₀) (pos 1) (pos 0))

-- its addition there leaves all closing counts as they were
abbrev pub LeavesClosings : List ℕ → List Claim → ℕ → StudyRun → Type 0
LeavesClosings rates claims i r = (k : ℕ) → ClosingPlace k → change rates claims i r k ≡ pos 0

-- its addition there changes each closing sum of the weighted set by its weight times the change of the count at the same place
abbrev pub WeighsClosings : List ℕ → List Claim → ℕ → StudyRun → Type 0
WeighsClosings rates claims i r =
    (k : ℕ) → ClosingPlace k → change rates claims i r (k + 40) ≡ pos (weight (nth_claim claims i)) *ℤ change rates claims i r k

-- accepted, and closed in the window of a run
unfoldable pub closes_in : List ℕ → Claim → StudyRun → Bool
closes_in rates c r = eqb (own_refusal rates c) 0 && closed_in c (run_window r).first.0 (run_window r).last.0

-- What demand 3 says of rates, a list of claims, the run over the undivided window, and the runs over its parts
pub record AddsUp (rates : List ℕ) (claims : List Claim) (whole part : StudyRun) (parts : List StudyRun) : Type 0 where
  -- 1. The sums of the parts' last studies total exactly those of the undivided window's, in both sets: in every group the exposure, the closing
  -- counts under each category, the expected recoveries and the expected deaths
  pub sums : total plus (λ r. (last_study rates claims r).sums) part parts ≡ (last_study rates claims whole).sums
  -- 2. Every place gets the same answer in each run: the number that its claim and the rates have by themselves
  pub answer : (i : ℕ) → i < length claims → answer_at rates claims i whole ≡ own_refusal rates (nth_claim claims i)
  pub same_answer : (i : ℕ) → i < length claims → EveryPart (λ r. answer_at rates claims i r ≡ answer_at rates claims i whole) part parts
  -- 3. An accepted claim that is closed in the undivided window is counted as closed there and in exactly one part, and leaves the closing
  -- counts of every other part as they were; any other claim leaves those of every study as they were, so it is counted in none
  pub counted : (i : ℕ) → i < length claims → closes_in rates (nth_claim claims i) whole ≡ true
      → CountedClosed rates claims i whole × ExactlyOnePart (CountedClosed rates claims i) part parts
      × EveryPart (λ r. CountedClosed rates claims i r ⊎ LeavesClosings rates claims i r) part parts
  pub not_counted : (i : ℕ) → i < length claims → closes_in rates (nth_claim claims i) whole ≡ false
      → LeavesClosings rates claims i whole × EveryPart (LeavesClosings rates claims i) part parts
      × (CountedClosed rates claims i whole → ⊥) × NoPart (CountedClosed rates claims i) part parts
  -- and in the weighted set every claim's closing counts with its weight, in each study
  pub weighted_closings : (i : ℕ) → i < length claims → WeighsClosings rates claims i whole × EveryPart (WeighsClosings rates claims i) part parts
  -- 4. Each last study is the study of its window and the accepted claims: claims taken, closing counts and sums as the Study rules say
  pub whole_study : last_study rates claims whole ≡ study_of (run_window whole) rates (accepted rates claims)
  pub part_studies : EveryPart (λ r. last_study rates claims r ≡ study_of (run_window r) rates (accepted rates claims)) part parts

-- Demand 3: it holds of everything that the engine can be given
abbrev pub Demand3 : Type 0
Demand3 =
    (rates : List ℕ) (claims : List Claim) (whole part : StudyRun) (parts : List StudyRun) → length claims ≤ most_claims
    → Opens (length claims) whole
    → Parts (Opens (length claims)) run_window (run_window whole).first.0 (run_window whole).last.0 part parts
    → AddsUp rates claims whole part parts
