-- A list stands for its study: on lists that do, each call answers and leaves what the call on the studies does, and so does every chain of calls.
-- `proofs/CallChains.antt` proves `CallsStand` and `SameChains`.
use Rattle.std.specs.Prelude.{ℕ, ◌+◌, ◌≤◌, ◌<◌, ◌≡◌, List, [], ◌∷◌, ◌++◌, length, get_or, drop, ℤ, pos, None}
use Rattle.basics.specs.Limits.{no_form}
use Rattle.rates.specs.declared.Kind.{Kind}
use Rattle.study.specs.declared.Study.{Study}
use Rattle.study.specs.Answers.{Answer}
use Rattle.study.specs.Study.{opened}
use Rattle.study.specs.Joining.{joined}
use Rattle.study.specs.Returned.{Returned}
use Rattle.claim_file.specs.BlockAnswers.{record_in}
use Rattle.c_abi.specs.declared.Change.{Change}
use Rattle.c_abi.specs.Abi.{date_in}
use Rattle.c_abi.specs.StudyCalls.{study_in, changed_by, taken_from, open_answer, open_after, claim_answer, claim_after, join_answer, join_after}

-- the number at the place of the sum k: 0 to 79, behind the days and the claims taken
abbrev pub sum_in : List ℤ → ℕ → ℤ
sum_in xs k = get_or xs (k + 3) (pos 0)

-- A list of 83 numbers or more stands for a study that a call can return: each of the study's numbers has its own place
pub record Stands (xs : List ℤ) (s : Study) : Type 0 where
  pub form : 83 ≤ length xs
  pub first : get_or xs 0 (pos 0) ≡ pos s.window.first.0
  pub last : get_or xs 1 (pos 0) ≡ pos s.window.last.0
  pub taken : get_or xs 2 (pos 0) ≡ pos s.taken
  pub sum : (k : ℕ) → k < 80 → sum_in xs k ≡ get_or s.sums k (pos 0)
  pub returned : Returned s

-- A call on the list xs that answers n and leaves ys does what a study's call does: its number is answered, the list stands for its study, and the numbers
-- behind the 83rd are as they were
pub record Does (xs : List ℤ) (n : ℕ) (ys : List ℤ) (a : Answer) : Type 0 where
  pub answer : n ≡ a.refused
  pub left : Stands ys a.study
  pub behind : drop 83 ys ≡ drop 83 xs

pub record CallsStand : Type 0 where
  -- what is read from a list is the study that it stands for
  pub reading : (xs : List ℤ) (s : Study) → Stands xs s → study_in xs ≡ s
  pub opening : (first last : ℕ) (xs : List ℤ) → 83 ≤ length xs
      → Does xs (open_answer first last xs) (open_after first last xs) (opened (date_in first) (date_in last))
  -- with any bytes for a record and any numbers for a table
  pub changing : (change : Change) (kind : Kind) (xs : List ℤ) (s : Study) (claim table : List ℕ) → Stands xs s
      → Does xs (claim_answer (changed_by change kind) xs claim table) (claim_after (changed_by change kind) xs claim table)
      (taken_from (changed_by change kind) s (record_in claim 0) table)
  pub joining : (xs ys : List ℤ) (s t : Study) → Stands xs s → Stands ys t → Does xs (join_answer xs ys) (join_after xs ys) (joined s t)
  -- bytes that are no record are answered 255, on any list, and the list stays as it is
  pub no_record : (change : Change) (kind : Kind) (xs : List ℤ) (claim table : List ℕ) → record_in claim 0 ≡ None
      → (claim_answer (changed_by change kind) xs claim table ≡ no_form) × (claim_after (changed_by change kind) xs claim table ≡ xs)

-- A chain of calls: ltd_open on a lent list; adding or withdrawing, on what a chain left; ltd_join of what two chains left
pub data Calls : Type 0 where
  opens : ℕ → ℕ → List ℤ → Calls
  changes : Change → Kind → Calls → List ℕ → List ℕ → Calls
  joins : Calls → Calls → Calls

-- every list that is opened has 83 numbers or more
unfoldable pub Lent : Calls → Type 0
Lent (opens first last xs) = 83 ≤ length xs
Lent (changes change kind c claim table) = Lent c
Lent (joins c d) = Lent c × Lent d

-- the list that the chain's last call leaves, the one that its first study was opened in, and all answers, the last call's first
unfoldable pub list_left : Calls → List ℤ
list_left (opens first last xs) = open_after first last xs
list_left (changes change kind c claim table) = claim_after (changed_by change kind) (list_left c) claim table
list_left (joins c d) = join_after (list_left c) (list_left d)

unfoldable pub lent_to : Calls → List ℤ
lent_to (opens first last xs) = xs
lent_to (changes change kind c claim table) = lent_to c
lent_to (joins c d) = lent_to c

unfoldable pub list_answers : Calls → List ℕ
list_answers (opens first last xs) = open_answer first last xs ∷ []
list_answers (changes change kind c claim table) = claim_answer (changed_by change kind) (list_left c) claim table ∷ list_answers c
list_answers (joins c d) = join_answer (list_left c) (list_left d) ∷ (list_answers c ++ list_answers d)

-- the same chain on studies
unfoldable pub study_left : Calls → Study
study_left (opens first last xs) = (opened (date_in first) (date_in last)).study
study_left (changes change kind c claim table) = (taken_from (changed_by change kind) (study_left c) (record_in claim 0) table).study
study_left (joins c d) = (joined (study_left c) (study_left d)).study

unfoldable pub study_answers : Calls → List ℕ
study_answers (opens first last xs) = (opened (date_in first) (date_in last)).refused ∷ []
study_answers (changes change kind c claim table) =
    (taken_from (changed_by change kind) (study_left c) (record_in claim 0) table).refused ∷ study_answers c
study_answers (joins c d) = (joined (study_left c) (study_left d)).refused ∷ (study_answers c ++ study_answers d)

pub record SameChains : Type 0 where
  pub left : (c : Calls) → Lent c → Stands (list_left c) (study_left c)
  pub answers : (c : Calls) → Lent c → list_answers c ≡ study_answers c
  pub behind : (c : Calls) → Lent c → drop 83 (list_left c) ≡ drop 83 (lent_to c)
