-- Moves and pools by the C calls: what `TakenBack` and `Pooling` of `crates/study/specs` say of studies and claims, of lists of numbers and records of bytes.
-- `proofs/CallMoves.antt` proves `CallsTakenBack` and `CallsPool`.
use Rattle.std.specs.Prelude.{ℕ, ◌≤◌, ◌<◌, ◌≡◌, Bool, List, [], ◌∷◌, length, drop, leb, ℤ, ◌+ℤ◌, Some}
use Rattle.basics.specs.Pick.{pick}
use Rattle.basics.specs.Limits.{most_claims}
use Rattle.basics.specs.Checks.{refuse_full}
use Rattle.claim_months.specs.declared.Claim.{Claim}
use Rattle.claim_months.specs.declared.Window.{Window}
use Rattle.claim_months.specs.Windows.{Parts, total, EveryPart}
use Rattle.rates.specs.declared.Kind.{Kind}
use Rattle.study.specs.Study.{study_of, opened}
use Rattle.study.specs.Moves.{Move, remaining, Allowed, due_answers, Dates, dates_of}
use Rattle.study.specs.Joining.{added_all, SameClaims, Pool, pool_claims, pool_window}
use Rattle.claim_file.specs.BlockAnswers.{record_in}
use Rattle.c_abi.specs.declared.Change.{Change}
use Rattle.c_abi.specs.declared.Change.TheVariants.{Add, Withdraw}
use Rattle.c_abi.specs.Abi.{date_in}
use Rattle.c_abi.specs.StudyCalls.{changed_by, open_answer, open_after, claim_answer, claim_after, join_answer, join_after}
use Rattle.c_abi.specs.CallChains.{sum_in, Stands}
use Rattle.c_abi.specs.CallsAddUp.{table_of}

-- A move by a call: adding or withdrawing, the bytes that are lent, and the claim that they are the record of
pub record CallMove : Type 0 where
  pub withdraws : Bool
  pub bytes : List ℕ
  pub claim : Claim

unfoldable pub Recorded : List CallMove → Type 0
Recorded [] = Unit {0}
Recorded (m ∷ ms) = (record_in m.bytes 0 ≡ Some m.claim) × Recorded ms

-- the moves of claims
abbrev pub move_of : CallMove → Move
move_of m = record { withdraws = m.withdraws; claim = m.claim }

unfoldable pub moves_of : List CallMove → List Move
moves_of [] = []
moves_of (m ∷ ms) = move_of m ∷ moves_of ms

-- the bytes of every move are its claim's record, and every withdrawal is allowed
abbrev pub CallAllowed : List ℕ → List CallMove → Type 0
CallAllowed rates ms = Recorded ms × Allowed rates (moves_of ms)

-- what a move answers and leaves; the list after some moves, and the numbers that they answered
abbrev pub change_of : CallMove → Change
change_of m = pick m.withdraws Withdraw Add

abbrev pub move_answer : Kind → List ℕ → List ℤ → CallMove → ℕ
move_answer kind rates xs m = claim_answer (changed_by (change_of m) kind) xs m.bytes (table_of kind rates)

abbrev pub move_after : Kind → List ℕ → List ℤ → CallMove → List ℤ
move_after kind rates xs m = claim_after (changed_by (change_of m) kind) xs m.bytes (table_of kind rates)

unfoldable pub list_moved : Kind → List ℕ → List ℤ → List CallMove → List ℤ
list_moved kind rates xs [] = xs
list_moved kind rates xs (m ∷ ms) = list_moved kind rates (move_after kind rates xs m) ms

unfoldable pub call_answers : Kind → List ℕ → List ℤ → List CallMove → List ℕ
call_answers kind rates xs [] = []
call_answers kind rates xs (m ∷ ms) = move_answer kind rates xs m ∷ call_answers kind rates (move_after kind rates xs m) ms

-- Two dates as the calls take them, and the list that ltd_open is lent
pub record CallDates : Type 0 where
  pub first : ℕ
  pub last : ℕ
  pub lent : List ℤ

abbrev pub dates_in : CallDates → Dates
dates_in d = record { first = date_in d.first; last = date_in d.last }

abbrev pub call_days : CallDates → Window
call_days d = dates_of (dates_in d)

-- ltd_open answers 0
abbrev pub CallAccepted : CallDates → Type 0
CallAccepted d = open_answer d.first d.last d.lent ≡ 0

-- the last list and the answers of some moves
abbrev pub list_moved_in : Kind → List ℕ → List CallMove → CallDates → List ℤ
list_moved_in kind rates ms d = list_moved kind rates (open_after d.first d.last d.lent) ms

abbrev pub call_answers_in : Kind → List ℕ → List CallMove → CallDates → List ℕ
call_answers_in kind rates ms d = call_answers kind rates (open_after d.first d.last d.lent) ms

-- Request No. 10 of ltd_add and ltd_withdraw, and of the two calls with a prepared table
pub record CallsTakenBack : Type 0 where
  pub answers : (kind : Kind) (rates : List ℕ) (ms : List CallMove) (d : CallDates) → CallAccepted d → CallAllowed rates ms
      → call_answers_in kind rates ms d ≡ due_answers rates [] (moves_of ms)
  pub study : (kind : Kind) (rates : List ℕ) (ms : List CallMove) (d : CallDates) → CallAccepted d → CallAllowed rates ms
      → Stands (list_moved_in kind rates ms d) (study_of (call_days d) rates (remaining rates (moves_of ms)))
  pub behind : (kind : Kind) (rates : List ℕ) (ms : List CallMove) (d : CallDates) → CallAccepted d → CallAllowed rates ms
      → drop 83 (list_moved_in kind rates ms d) ≡ drop 83 d.lent
  pub same_answers : (kind : Kind) (rates : List ℕ) (ms : List CallMove) (whole part : CallDates) (parts : List CallDates) → CallAccepted whole
      → CallAllowed rates ms → Parts CallAccepted call_days (call_days whole).first.0 (call_days whole).last.0 part parts
      → EveryPart (λ d. call_answers_in kind rates ms d ≡ call_answers_in kind rates ms whole) part parts
  pub parts_total : (kind : Kind) (rates : List ℕ) (ms : List CallMove) (whole part : CallDates) (parts : List CallDates) → CallAccepted whole
      → CallAllowed rates ms → Parts CallAccepted call_days (call_days whole).first.0 (call_days whole).last.0 part parts
      → (k : ℕ) → k < 80
      → total ◌+ℤ◌ (λ d. sum_in (list_moved_in kind rates ms d) k) part parts ≡ sum_in (list_moved_in kind rates ms whole) k

-- A pool by the calls: two dates, the lists that both studies are opened in, and the moves of each
pub record CallPool : Type 0 where
  pub first : ℕ
  pub last : ℕ
  pub lent : List ℤ
  pub other_lent : List ℤ
  pub one : List CallMove
  pub other : List CallMove

abbrev pub one_dates : CallPool → CallDates
one_dates p = record { first = p.first; last = p.last; lent = p.lent }

abbrev pub other_dates : CallPool → CallDates
other_dates p = record { first = p.first; last = p.last; lent = p.other_lent }

-- the pool of studies, its window and its claims
abbrev pub pool_of : CallPool → Pool
pool_of p = record { dates = dates_in (one_dates p); one = moves_of p.one; other = moves_of p.other }

abbrev pub call_pool_window : CallPool → Window
call_pool_window p = pool_window (pool_of p)

abbrev pub call_pool_claims : List ℕ → CallPool → List Claim
call_pool_claims rates p = pool_claims rates (pool_of p)

-- what ltd_join of the two lists answers, and the first of them afterwards
abbrev pub call_pool_answer : Kind → List ℕ → CallPool → ℕ
call_pool_answer kind rates p = join_answer (list_moved_in kind rates p.one (one_dates p)) (list_moved_in kind rates p.other (other_dates p))

abbrev pub call_pool_list : Kind → List ℕ → CallPool → List ℤ
call_pool_list kind rates p = join_after (list_moved_in kind rates p.one (one_dates p)) (list_moved_in kind rates p.other (other_dates p))

-- both lists are opened, and every move is one of its record and allowed
pub record CallPoolable (rates : List ℕ) (p : CallPool) : Type 0 where
  pub opens : CallAccepted (one_dates p)
  pub other_opens : CallAccepted (other_dates p)
  pub one : CallAllowed rates p.one
  pub other : CallAllowed rates p.other

-- the same, with at most 500,000 claims together, and the claims of a whole window's pool up to order
abbrev pub CallPoolsClaims : List ℕ → List Claim → CallPool → Type 0
CallPoolsClaims rates cs p = CallPoolable rates p × (length (call_pool_claims rates p) ≤ most_claims) × SameClaims (call_pool_claims rates p) cs

-- Request No. 3 of ltd_join
pub record CallsPool : Type 0 where
  pub answer : (kind : Kind) (rates : List ℕ) (p : CallPool) → CallPoolable rates p
      → call_pool_answer kind rates p ≡ pick (leb (length (call_pool_claims rates p)) most_claims) 0 refuse_full
  pub study : (kind : Kind) (rates : List ℕ) (p : CallPool) → CallPoolable rates p → length (call_pool_claims rates p) ≤ most_claims
      → Stands (call_pool_list kind rates p) (study_of (call_pool_window p) rates (call_pool_claims rates p))
  pub added_study : (kind : Kind) (rates : List ℕ) (p : CallPool) (cs : List Claim) → CallPoolable rates p
      → length (call_pool_claims rates p) ≤ most_claims → SameClaims cs (call_pool_claims rates p)
      → Stands (call_pool_list kind rates p) (added_all rates (opened (date_in p.first) (date_in p.last)).study cs)
  pub behind : (kind : Kind) (rates : List ℕ) (p : CallPool) → CallPoolable rates p → drop 83 (call_pool_list kind rates p) ≡ drop 83 p.lent
  pub parts_total : (kind : Kind) (rates : List ℕ) (whole part : CallPool) (parts : List CallPool)
      → CallPoolsClaims rates (call_pool_claims rates whole) whole
      → Parts (CallPoolsClaims rates (call_pool_claims rates whole)) call_pool_window (call_pool_window whole).first.0 (call_pool_window whole).last.0 part parts
      → (k : ℕ) → k < 80 → total ◌+ℤ◌ (λ p. sum_in (call_pool_list kind rates p) k) part parts ≡ sum_in (call_pool_list kind rates whole) k
