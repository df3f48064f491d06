-- Document 02, request No. 3: pooling affiliates. Two studies of the same window joined into one.
use Rattle.std.specs.Prelude.{ℕ, ◌+◌, ◌≤◌, ◌≡◌, Bool, ◌&&◌, List, [], ◌∷◌, ◌++◌, length, leb, eqb}
use Rattle.basics.specs.Limits.{most_claims}
use Rattle.basics.specs.Checks.{check, ◌then◌, refuse_full, refuse_other_window}
use Rattle.claim_months.specs.declared.Claim.{Claim}
use Rattle.claim_months.specs.declared.Window.{Window}
use Rattle.claim_months.specs.Windows.{window_check}
use Rattle.study.specs.declared.Study.{Study}
use Rattle.study.specs.Answers.{Answer}
use Rattle.study.specs.Sums.{plus, within}
use Rattle.study.specs.Study.{study_answer, added}
use Rattle.study.specs.Moves.{Move, times_in, remaining, Allowed, Dates, dates_of, Accepted, moved_at}

abbrev pub study_window_check : Study → ℕ
study_window_check s = window_check s.window.first.0 s.window.last.0

-- 15: the windows differ
unfoldable pub same_window : Window → Window → Bool
same_window v w = eqb v.first.0 w.first.0 && eqb v.last.0 w.last.0

-- 9: together over 500,000 claims, or a sum or count outside the table's bounds in either or in the joined study
unfoldable pub join_room : Study → Study → Bool
join_room s t = leb (s.taken + t.taken) most_claims && within s.sums && within t.sums && within (plus s.sums t.sums)

-- the number of the first check that fails, or 0: a bad window in either, unequal windows, full
unfoldable pub join_check : Study → Study → ℕ
join_check s t =
    study_window_check s then study_window_check t
    then check (same_window s.window t.window) refuse_other_window
    then check (join_room s t) refuse_full

-- both studies together: claims taken and every sum added group by group
unfoldable pub together : Study → Study → Study
together s t = record { window = s.window; taken = s.taken + t.taken; sums = plus s.sums t.sums }

-- Joining takes two studies. A refusal gives its number and the first study
unfoldable pub joined : Study → Study → Answer
joined s t = study_answer (join_check s t) s (together s t)

-- the study that adding a list of claims to one returns, each addition given the study that the one before it returned
unfoldable pub added_all : List ℕ → Study → List Claim → Study
added_all rates s [] = s
added_all rates s (c ∷ cs) = added_all rates (added s c rates).study cs

-- two lists have the same claims, up to order
abbrev pub SameClaims : List Claim → List Claim → Type 0
SameClaims cs ds = (c : Claim) → times_in c cs ≡ times_in c ds

-- A pool: a window, and the moves by which each of two studies of it is built
pub record Pool : Type 0 where
  pub dates : Dates
  pub one : List Move
  pub other : List Move

abbrev pub pool_answer : List ℕ → Pool → Answer
pool_answer rates p = joined (moved_at rates p.one p.dates) (moved_at rates p.other p.dates)

-- the claims remaining of both, one after the other
abbrev pub pool_claims : List ℕ → Pool → List Claim
pool_claims rates p = remaining rates p.one ++ remaining rates p.other

abbrev pub pool_window : Pool → Window
pool_window p = dates_of p.dates

-- the window is accepted and every withdrawal is allowed
abbrev pub Poolable : List ℕ → Pool → Type 0
Poolable rates p = Accepted p.dates × Allowed rates p.one × Allowed rates p.other

-- the same, with at most 500,000 claims together, and the claims of a whole window's pool up to order
abbrev pub PoolsClaims : List ℕ → List Claim → Pool → Type 0
PoolsClaims rates cs p = Poolable rates p × (length (pool_claims rates p) ≤ most_claims) × SameClaims (pool_claims rates p) cs
