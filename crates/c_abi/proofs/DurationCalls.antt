-- What is answered and stored of the rows of a file, with rates and with their prepared table. Assumes nothing.
use mathlib.Core.Path.{◌≡◌, refl, sym, ap, ◌∙◌}
use mathlib.Core.Bool.{true}
use mathlib.Core.List.{List, ◌++◌}
use lib.IntN.{ℤ}
use lib.ListN.{length}
use Prim.Native.Nat.{ℕ}
use Rattle.std.proofs.Common.{map}
use Rattle.basics.specs.Pick.{pick}
use Rattle.rates.specs.declared.Kind.TheVariants.{Plain, Prepared}
use Rattle.rates.specs.design.Prepared.{prepared_of}
use Rattle.claim_file.specs.Runs.{FileRun}
use Rattle.claim_file.specs.Run.{file_run}
use Rattle.claim_file.proofs.SameRuns.{same_runs}
use Rattle.by_duration.specs.Wrapped.{as64}
use Rattle.by_duration.specs.DurationRuns.{run_for, duration_rows, head_numbers, duration_numbers, rows_in, has_rows, durations_answered, durations_after}
use Rattle.by_duration.proofs.SameRows.{same_rows}
use Rattle.c_abi.specs.DurationCalls.{HeadOf, SameDurations}

module _ (out : List ℤ) (file rates : List ℕ) where
  prepared-run : run_for Prepared (prepared_of rates) file ≡ file_run rates file
  prepared-run = (same_runs rates file).prepared_run

  plain-run : run_for Plain rates file ≡ file_run rates file
  plain-run = (same_runs rates file).plain_run

  answers : durations_answered Prepared (prepared_of rates) file out ≡ durations_answered Plain rates file out
  unfolding durations_answered
  answers = ap (λ (r : FileRun). pick (has_rows (length out)) r.refused 255) (prepared-run ∙ sym plain-run)

  lists : durations_after Prepared (prepared_of rates) file out ≡ durations_after Plain rates file out
  unfolding durations_after
  lists = ap (λ (xs : List ℤ). pick (has_rows (length out)) xs out) (same_rows (rows_in (length out)) rates file).prepared

  number : has_rows (length out) ≡ true → durations_answered Plain rates file out ≡ (file_run rates file).refused
  unfolding durations_answered
  number h = rw h (ap (λ (r : FileRun). r.refused) plain-run)

  stored-rows : has_rows (length out) ≡ true → durations_after Plain rates file out ≡ duration_numbers Plain (rows_in (length out)) rates file
  unfolding durations_after
  stored-rows h = rw h refl

  head-of : (r : FileRun) (xs : List ℤ) → HeadOf r (head_numbers r ++ xs)
  unfolding head_numbers
  head-of r xs = record { number = refl; block = refl; place = refl; taken = refl }

  heads : has_rows (length out) ≡ true → HeadOf (file_run rates file) (durations_after Plain rates file out)
  unfolding duration_numbers
  heads h =
      let rows = map as64 (duration_rows Plain (rows_in (length out)) rates file) in
      rw (stored-rows h, plain-run) (head-of (file_run rates file) rows)

  pub same-durations : SameDurations out file rates
  same-durations = record { answer = answers; after = lists; run = number; head = heads }
