-- Document 01, Figures to hold it to: the column T. In every run, refused or not, each group has a C of at most 500,000, so z, m and T of each are
-- answered; and of a run that is not refused each group's line ends in its T. `proofs/Factors.antt` proves it
use Rattle.std.specs.Prelude.{ℕ, ◌≤◌, ◌≡◌, List, [], ◌∷◌, ◌++◌, ℤ, Ok}
use Rattle.basics.specs.Limits.{most_claims}
use Rattle.rates.specs.declared.Kind.{Kind}
use Rattle.valuation.specs.Factor.{factors_of}
use Rattle.valuation.specs.StudyFactor.{terminations, expected_sum, study_factor}
use Rattle.claim_file.specs.Runs.{FileRun}
use Rattle.claim_file.specs.Run.{file_run_with, file_run}
use Rattle.claim_file.specs.design.PreparedRuns.{adding_with}
use Rattle.claim_file.specs.Corrections.{corrected_run}
use Rattle.valuation.specs.declared.GroupFactor.{GroupFactor}
use Rattle.report.specs.Text.{number_text, count_column, sum_columns, run_line}

-- z, m and T of a group, from its C and E
abbrev pub group_factor : List ℤ → ℕ → GroupFactor
group_factor sums g = factors_of g (terminations sums g) (expected_sum sums g)

pub record HasFactor (sums : List ℤ) (g : ℕ) : Type 0 where
  pub few : terminations sums g ≤ most_claims
  pub answered : study_factor sums g ≡ Ok (group_factor sums g)

pub record HasFactors (r : FileRun) : Type 0 where
  pub factors : (g : ℕ) → 1 ≤ g → g ≤ 5 → HasFactor r.study.sums g
  pub lines : r.refused ≡ 0 → (g : ℕ) → 1 ≤ g → g ≤ 5
      → run_line r g ≡ number_text g ++ (sum_columns r.study.sums g 8 ++ (count_column (group_factor r.study.sums g).t ++ (10 ∷ [])))

-- of every file and any rates, plain or with a table of either kind, and of the run with corrections
pub record RunFactors : Type 0 where
  pub plain : (rates bytes : List ℕ) → HasFactors (file_run rates bytes)
  pub with_table : (kind : Kind) (table bytes : List ℕ) → HasFactors (file_run_with (adding_with kind table) bytes)
  pub corrected : (rates bytes : List ℕ) (g : ℕ) → 1 ≤ g → g ≤ 5 → HasFactor (corrected_run rates bytes).study.sums g
