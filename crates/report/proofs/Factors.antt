-- Every study of a run has no more closings than claims taken, and at most 500,000 of these, since opening and adding keep both; so no C is above
-- 500,000. Assumes nothing.
use Prim.Native.Nat.{ℕ, ◌≤◌}
use mathlib.Core.Path.{◌≡◌, refl, subst}
use mathlib.Core.List.{List, [], ◌∷◌, ◌++◌}
use borrow.Author.Tests.{eq-eqb, ne_eqb, le-leb}
use Rattle.basics.proofs.Tests.{tests}
use Rattle.rates.specs.declared.Kind.{Kind}
use Rattle.rates.specs.declared.Kind.TheVariants.{Plain}
use Rattle.study.specs.declared.Study.{Study}
use Rattle.study.specs.Closings.{ClosedOnce}
use Rattle.study.specs.Returned.{Returned}
use Rattle.study.proofs.Closings.{closings}
use Rattle.study.proofs.Returned.{calls-return}
use Rattle.valuation.proofs.StudyFactor.{study-factors}
use Rattle.claim_file.specs.Runs.{FileRun, CorrectedRun}
use Rattle.claim_file.specs.Run.{file_run_with}
use Rattle.claim_file.specs.design.PreparedRuns.{adding_with}
use Rattle.claim_file.specs.Corrections.{corrected_run_with}
use Rattle.claim_file.proofs.Kept.{run-kept, corrected-kept}
use Rattle.claim_file.proofs.SameRuns.{same_runs}
use Rattle.report.specs.Text.{number_text, count_column, sum_columns, factor_column, group_line, run_line}
use Rattle.report.specs.Factors.{group_factor, HasFactor, HasFactors, RunFactors}

-- what opening and adding keep
record Counted (s : Study) : Type 0 where
  returned : Returned s
  once : ClosedOnce s

module _ (kind : Kind) (table : List ℕ) where
  run-counted : (bytes : List ℕ) → Counted (file_run_with (adding_with kind table) bytes).study
  run-counted =
      run-kept Counted (adding_with kind table) (λ b e. record { returned = calls-return.opening b e; once = closings.opening b e })
      (λ s c k. record { returned = (calls-return.adding kind s c table).returned k.returned; once = closings.adding kind s c table k.once })

  corrected-counted : (bytes : List ℕ) → Counted (corrected_run_with (adding_with kind table) bytes).study
  corrected-counted =
      corrected-kept Counted (adding_with kind table) (λ b e. record { returned = calls-return.opening b e; once = closings.opening b e })
      (λ s c k. record { returned = (calls-return.adding kind s c table).returned k.returned; once = closings.adding kind s c table k.once })

has-factor : (s : Study) → Counted s → (g : ℕ) → 1 ≤ g → g ≤ 5 → HasFactor s.sums g
has-factor s k g low high =
    let taken = k.returned.taken in
    let few = study-factors.few s g k.once in
    record { few = omega (tests, few, taken); answered = study-factors.answered s g k.once taken low high }

-- the line of a group whose T is answered
factor-line : (r : FileRun) → r.refused ≡ 0 → (g : ℕ) → 1 ≤ g → g ≤ 5 → HasFactor r.study.sums g
    → run_line r g ≡ number_text g ++ (sum_columns r.study.sums g 8 ++ (count_column (group_factor r.study.sums g).t ++ (10 ∷ [])))
unfolding run_line group_line factor_column
factor-line r passed g low high h =
    rw (eq-eqb r.refused 0 passed, ne_eqb g 0 (λ z. omega tests), le-leb g 5 high, h.answered) refl

has-factors : (r : FileRun) → Counted r.study → HasFactors r
has-factors r k =
    let factors = has-factor r.study k in
    record { factors = factors; lines = λ passed g low high. factor-line r passed g low high (factors g low high) }

pub run-factors : RunFactors
run-factors =
    record {
      plain = λ rates bytes. subst HasFactors (same_runs rates bytes).plain_run (has-factors _ (run-counted Plain rates bytes));
      with_table = λ kind table bytes. has-factors _ (run-counted kind table bytes);
      corrected = λ rates bytes.
          subst (λ (r : CorrectedRun). (g : ℕ) → 1 ≤ g → g ≤ 5 → HasFactor r.study.sums g) (same_runs rates bytes).plain_corrected
          (has-factor _ (corrected-counted Plain rates bytes));
    }
