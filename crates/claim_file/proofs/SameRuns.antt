-- Two ways to add that are the same give the same runs; so with plain rates, and with a prepared table.
-- Assumes nothing.
use Prim.Native.Nat.{ℕ}
use mathlib.Core.Path.{◌≡◌, ap, fun_ext}
use mathlib.Core.List.{List}
use Rattle.rates.specs.declared.Kind.TheVariants.{Plain, Prepared}
use Rattle.rates.specs.design.Prepared.{prepared_of}
use Rattle.study.proofs.SameAdding.{same-adding}
use Rattle.claim_file.specs.Run.{Adding, adding, fed, file_run_with}
use Rattle.claim_file.specs.Corrections.{corrected_run_with}
use Rattle.claim_file.specs.design.PreparedRuns.{adding_with}
use Rattle.claim_file.specs.design.SameRuns.{SameRuns}

plain-is : (rates : List ℕ) → adding_with Plain rates ≡ adding rates
plain-is rates = fun_ext (λ s. fun_ext (λ c. same-adding.plain s c rates))

prepared-is : (rates : List ℕ) → adding_with Prepared (prepared_of rates) ≡ adding rates
prepared-is rates = fun_ext (λ s. fun_ext (λ c. same-adding.prepared s c rates))

pub same_runs : (rates bytes : List ℕ) → SameRuns rates bytes
same_runs rates bytes =
    record {
      plain_fed = λ r. ap (λ (add : Adding). fed r add bytes) (plain-is rates);
      prepared_fed = λ r. ap (λ (add : Adding). fed r add bytes) (prepared-is rates);
      plain_run = ap (λ (add : Adding). file_run_with add bytes) (plain-is rates);
      prepared_run = ap (λ (add : Adding). file_run_with add bytes) (prepared-is rates);
      plain_corrected = ap (λ (add : Adding). corrected_run_with add bytes) (plain-is rates);
      prepared_corrected = ap (λ (add : Adding). corrected_run_with add bytes) (prepared-is rates);
    }
