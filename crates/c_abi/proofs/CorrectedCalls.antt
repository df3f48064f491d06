-- What is answered and stored of a run with corrections and a prepared table. Assumes nothing.
use Prim.Native.Nat.{ℕ}
use mathlib.Core.Path.{◌≡◌, ap, ◌∙◌}
use mathlib.Core.List.{List}
use lib.IntN.{ℤ}
use lib.Seq.{sets}
use Rattle.claim_file.specs.Runs.{CorrectedRun}
use Rattle.claim_file.proofs.SameRuns.{same_runs}
use Rattle.study_list.specs.Lent.{answered, stored}
use Rattle.c_abi.specs.CorrectedCalls.{corrected_numbers, SameCorrected}

-- two runs that are the same answer and store alike
module _ (out : List ℤ) (m r : CorrectedRun) (e : m ≡ r) where
  same_answer : answered 86 out m.refused ≡ answered 86 out r.refused
  same_answer = ap (λ (k : CorrectedRun). answered 86 out k.refused) e

  same_after : stored 86 out (sets out 0 (corrected_numbers m)) ≡ stored 86 out (sets out 0 (corrected_numbers r))
  same_after = ap (λ (k : CorrectedRun). stored 86 out (sets out 0 (corrected_numbers k))) e

  pub corrected-stored : (n : ℕ) (l : List ℤ) → (n ≡ answered 86 out m.refused) × (l ≡ stored 86 out (sets out 0 (corrected_numbers m)))
      → (n ≡ answered 86 out r.refused) × (l ≡ stored 86 out (sets out 0 (corrected_numbers r)))
  corrected-stored n l p = (p.0 ∙ same_answer, p.1 ∙ same_after)

pub same-corrected : (out : List ℤ) (file rates : List ℕ) → SameCorrected out file rates
same-corrected out file rates =
    let e = (same_runs rates file).prepared_corrected in
    record { answer = same_answer out _ _ e; after = same_after out _ _ e }
