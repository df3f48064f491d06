-- A list stands for its study, and the calls with a prepared table are those with its rates.
-- Assumes nothing.
use Prim.Native.Nat.{ℕ}
use mathlib.Core.Path.{◌≡◌, refl, ap, ◌∙◌}
use mathlib.Core.List.{List, ◌++◌}
use lib.IntN.{ℤ}
use Rattle.study_list.specs.StudyList.{study_numbers}
use Rattle.rates.specs.declared.Kind.TheVariants.{Prepared}
use Rattle.rates.specs.design.Prepared.{prepared_of}
use Rattle.claim_months.specs.declared.Claim.{Claim}
use Rattle.study.specs.declared.Study.{Study}
use Rattle.study.specs.Answers.{Answer}
use Rattle.study.specs.Study.{added}
use Rattle.study.specs.Withdrawing.{withdrawn}
use Rattle.study.proofs.SameAdding.{same-adding}
use Rattle.study.proofs.PreparedWithdrawing.{same-withdrawing}
use Rattle.c_abi.specs.declared.Change.TheVariants.{Add, Withdraw}
use Rattle.claim_file.specs.BlockAnswers.{record_in}
use Rattle.c_abi.specs.StudyCalls.{ListStands, study_form, study_in, Taking, AsWithRates, changed_by, taken_from, form_answer, form_after, claim_answer, claim_after, SameCalls}
use Rattle.c_abi.proofs.CallChains.{stands_read, numbers-stand}
use Rattle.std.specs.Prelude.{None, Option, Some}

pub list-stands : ListStands
list-stands s rest first last taken eighty =
    stands_read (study_numbers s ++ rest) s (numbers-stand s rest (record { first = first; last = last; taken = taken; sums = eighty }))

-- two ways to take a claim that agree, one with a list of rates and the other with another list, answer and store alike
module _ (t u : Taking) (r q : List ℕ) (h : (s : Study) (c : Claim) → t s c r ≡ u s c q) where
  from-same : (s : Study) (m : Option Claim) → taken_from t s m r ≡ taken_from u s m q
  unfolding taken_from
  from-same s (Some c) = h s c
  from-same s None = refl

  pub answer-same : (xs : List ℤ) (claim : List ℕ) → claim_answer t xs claim r ≡ claim_answer u xs claim q
  unfolding claim_answer
  answer-same xs claim = ap (λ (a : Answer). form_answer (study_form xs) a) (from-same (study_in xs) (record_in claim 0))

  pub after_same : (xs : List ℤ) (claim : List ℕ) → claim_after t xs claim r ≡ claim_after u xs claim q
  unfolding claim_after
  after_same xs claim = ap (λ (a : Answer). form_after (study_form xs) xs a) (from-same (study_in xs) (record_in claim 0))

  pub as-well : (xs : List ℤ) (claim : List ℕ) (n : ℕ) (l : List ℤ) → (n ≡ claim_answer t xs claim r) × (l ≡ claim_after t xs claim r)
      → (n ≡ claim_answer u xs claim q) × (l ≡ claim_after u xs claim q)
  as-well xs claim n l e = (e.0 ∙ answer-same xs claim, e.1 ∙ after_same xs claim)

as-with-rates : (take plain : Taking) → ((s : Study) (c : Claim) (rates : List ℕ) → take s c (prepared_of rates) ≡ plain s c rates) → AsWithRates take plain
as-with-rates take plain h xs claim rates = (
  answer-same take plain (prepared_of rates) rates (λ s c. h s c rates) xs claim,
  after_same take plain (prepared_of rates) rates (λ s c. h s c rates) xs claim,
)

pub same-calls : SameCalls
unfolding changed_by
same-calls =
    record {
      adding = as-with-rates (changed_by Add Prepared) added same-adding.prepared;
      withdrawing = as-with-rates (changed_by Withdraw Prepared) withdrawn same-withdrawing.prepared;
    }
