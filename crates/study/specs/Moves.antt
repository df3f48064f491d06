-- Document 02, request No. 10, the statement: for every list of additions and withdrawals from a fresh study, in which every withdrawn record had
-- been taken before with equal fields and not yet withdrawn, all with one table, the study is that of the claims remaining.
use Rattle.std.specs.Prelude.{ℕ, ◌+◌, ◌≡◌, Bool, true, ◌&&◌, List, [], ◌∷◌, length, ltb, eqb}
use Rattle.basics.specs.Pick.{pick}
use Rattle.basics.specs.Limits.{most_claims}
use Rattle.basics.specs.Checks.{check, ◌then◌, refuse_full}
use Rattle.calendar.specs.declared.Date.{Date}
use Rattle.claim_months.specs.declared.Claim.{Claim}
use Rattle.claim_months.specs.declared.Window.{Window}
use Rattle.claim_months.specs.Windows.{between}
use Rattle.study.specs.declared.Study.{Study}
use Rattle.study.specs.Answers.{Answer}
use Rattle.study.specs.Study.{opened, added, own_refusal}
use Rattle.study.specs.Withdrawing.{withdrawn}

-- a move: adding a claim, or withdrawing it
pub record Move : Type 0 where
  pub withdraws : Bool
  pub claim : Claim

-- two dates, and two claims, are equal in all fields
unfoldable pub same_date : Date → Date → Bool
same_date a b = eqb a.year b.year && eqb a.month b.month && eqb a.day b.day

unfoldable pub same_claim : Claim → Claim → Bool
same_claim a b =
    eqb a.number b.number && same_date a.disability b.disability && same_date a.bcd b.bcd
    && same_date a.termination b.termination && same_date a.maximum b.maximum && eqb a.status b.status
    && eqb a.code b.code && eqb a.cell b.cell && eqb a.benefit b.benefit

-- how often a claim stands in a list, and the list without its first place
unfoldable pub times_in : Claim → List Claim → ℕ
times_in c [] = 0
times_in c (x ∷ xs) = pick (same_claim x c) 1 0 + times_in c xs

unfoldable pub without : Claim → List Claim → List Claim
without c [] = []
without c (x ∷ xs) = pick (same_claim x c) xs (x ∷ without c xs)

-- The claims remaining, by the moves and the table alone: an addition joins them if its claim's own number under the table is 0 and fewer than
-- 500,000 remain; a withdrawal takes its claim from them
unfoldable pub remaining_after : List ℕ → List Claim → List Move → List Claim
remaining_after rates cs [] = cs
remaining_after rates cs (m ∷ ms) =
    remaining_after rates
    (pick m.withdraws (without m.claim cs)
    (pick (eqb (own_refusal rates m.claim) 0 && ltb (length cs) most_claims) (m.claim ∷ cs) cs))
    ms

abbrev pub remaining : List ℕ → List Move → List Claim
remaining rates ms = remaining_after rates [] ms

-- every withdrawal is allowed: its record, all fields equal, is among the claims remaining then
unfoldable pub allowed_after : List ℕ → List Claim → List Move → Bool
allowed_after rates cs [] = true
allowed_after rates cs (m ∷ ms) =
    pick m.withdraws (ltb 0 (times_in m.claim cs)) true && allowed_after rates (remaining_after rates cs (m ∷ [])) ms

abbrev pub Allowed : List ℕ → List Move → Type 0
Allowed rates ms = allowed_after rates [] ms ≡ true

-- what a move of a study answers, the study after a list of moves, and the numbers that they answered
unfoldable pub moved : List ℕ → Study → Move → Answer
moved rates s m = pick m.withdraws (withdrawn s m.claim rates) (added s m.claim rates)

unfoldable pub moved_all : List ℕ → Study → List Move → Study
moved_all rates s [] = s
moved_all rates s (m ∷ ms) = moved_all rates (moved rates s m).study ms

unfoldable pub move_answers : List ℕ → Study → List Move → List ℕ
move_answers rates s [] = []
move_answers rates s (m ∷ ms) = (moved rates s m).refused ∷ move_answers rates (moved rates s m).study ms

-- what they should answer: every withdrawal is accepted; an addition answers its claim's own number, or 9 where 500,000 remain
unfoldable pub due_answers : List ℕ → List Claim → List Move → List ℕ
due_answers rates cs [] = []
due_answers rates cs (m ∷ ms) =
    pick m.withdraws 0 (own_refusal rates m.claim then check (ltb (length cs) most_claims) refuse_full)
    ∷ due_answers rates (remaining_after rates cs (m ∷ [])) ms

-- Two dates that opening accepts
pub record Dates : Type 0 where
  pub first : Date
  pub last : Date

abbrev pub dates_of : Dates → Window
dates_of d = between d.first d.last

abbrev pub Accepted : Dates → Type 0
Accepted d = (opened d.first d.last).refused ≡ 0

-- the last study and the answers of a list of moves in a window
abbrev pub moved_at : List ℕ → List Move → Dates → Study
moved_at rates ms d = moved_all rates (opened d.first d.last).study ms

abbrev pub answers_in : List ℕ → List Move → Dates → List ℕ
answers_in rates ms d = move_answers rates (opened d.first d.last).study ms
