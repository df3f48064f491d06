-- Loads can be rebuilt, pass their checks, and read back and run as files (document 02, No. 13).
use Rattle.std.specs.Prelude.{ℕ, suc, ◌<◌, ◌≤◌, ◌≡◌, true, List, length, get_or, Ok}
use Rattle.basics.specs.Limits.{most_claims}
use Rattle.basics.specs.Checks.{◌then◌}
use Rattle.claim_months.specs.Claim.{claim_check}
use Rattle.claim_months.specs.Windows.{window_check}
use Rattle.rates.specs.Rates.{rate_check}
use Rattle.study.specs.Study.{study_of}
use Rattle.claim_file.specs.declared.WindowDates.{WindowDates}
use Rattle.claim_file.specs.BlockAnswers.{no_claim}
use Rattle.claim_file.specs.Run.{file_run}
use Rattle.claim_file.specs.Files.{file_claims, Accepts, window_days}
use Rattle.load.specs.Load.{seed_sound, drawn, load_claim, load_step, load, seed_at, load_blocks, load_file}

-- What is so of every seed and size. `proofs/Rebuildable.antt` proves it
pub record Rebuildable : Type 0 where
  -- an answer's x is again a seed, so no load breaks off: every step of it is answered with its claim
  pub seeds : (x : ℕ) → seed_sound x ≡ true → seed_sound (drawn 5 x) ≡ true
  pub steps : (x size i : ℕ) → seed_sound x ≡ true → size ≤ most_claims → i < size
      → load_step (seed_at x i) size (suc i) ≡ Ok (record { claim = get_or (load x size) i no_claim; x = seed_at x (suc i) })
  -- every generated claim passes the checks 1 to 5 and 16 in every sound window
  pub passes : (x number b e : ℕ) → seed_sound x ≡ true → window_check b e ≡ 0 → (window_check b e then claim_check (load_claim x number)) ≡ 0
  -- a load has exactly so many claims, with the numbers 1 to its size
  pub size_so : (x size : ℕ) → length (load x size) ≡ size
  pub numbers : (x size i : ℕ) → i < size → (get_or (load x size) i no_claim).number ≡ suc i
  -- its blocks, written and read back, give the load
  pub read_back : (x size : ℕ) → seed_sound x ≡ true → size ≤ most_claims → file_claims (load_blocks x size) ≡ load x size
  -- and a file of them with a sound window and a sound table runs unrefused, with all claims taken
  pub runs : (rates : List ℕ) (w : WindowDates) (x size : ℕ) → Accepts w → rate_check rates 0 ≡ 0 → seed_sound x ≡ true → size ≤ most_claims
      → ((file_run rates (load_file w x size)).refused ≡ 0) × ((file_run rates (load_file w x size)).study ≡ study_of (window_days w) rates (load x size))
