-- Document 02, request No. 10, the statement: a study after additions and withdrawals is that of the claims remaining.
use Rattle.std.specs.Prelude.{ℕ, ◌≡◌, List, []}
use Rattle.claim_months.specs.Windows.{Parts, total, EveryPart}
use Rattle.study.specs.Sums.{plus}
use Rattle.study.specs.Study.{study_of}
use Rattle.study.specs.Moves.{Move, remaining, Allowed, due_answers, Dates, dates_of, Accepted, moved_at, answers_in}

-- Request No. 10: for every table, every list of allowed moves, of any length, and every accepted window; and the same list in a whole window and
-- in each part gives the same answers everywhere, and the parts total the whole in both sets. `proofs/TakenBack.antt` proves it
pub record TakenBack : Type 0 where
  pub answers : (rates : List ℕ) (ms : List Move) (d : Dates) → Accepted d → Allowed rates ms
      → answers_in rates ms d ≡ due_answers rates [] ms
  pub study : (rates : List ℕ) (ms : List Move) (d : Dates) → Accepted d → Allowed rates ms
      → moved_at rates ms d ≡ study_of (dates_of d) rates (remaining rates ms)
  pub same_answers : (rates : List ℕ) (ms : List Move) (whole part : Dates) (parts : List Dates) → Accepted whole → Allowed rates ms
      → Parts Accepted dates_of (dates_of whole).first.0 (dates_of whole).last.0 part parts
      → EveryPart (λ d. answers_in rates ms d ≡ answers_in rates ms whole) part parts
  pub parts_total : (rates : List ℕ) (ms : List Move) (whole part : Dates) (parts : List Dates) → Accepted whole → Allowed rates ms
      → Parts Accepted dates_of (dates_of whole).first.0 (dates_of whole).last.0 part parts
      → total plus (λ d. (moved_at rates ms d).sums) part parts ≡ (moved_at rates ms whole).sums
