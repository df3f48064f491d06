-- A load that anyone can rebuild: the theorem of document 02's No. 13.
-- Assumes nothing.
use Prim.Native.Nat.{ℕ, zero, suc, ◌+◌, ◌*◌, ◌/◌, ◌%◌, ◌≤◌, ◌<◌}
use mathlib.Core.Path.{◌≡◌, refl, sym, ap, subst, ◌∙◌}
use mathlib.Core.Bool.{true}
use mathlib.Core.List.{List, []}
use native.Mathlib.Omega.{arith}
use lib.ListN.{length, get_or}
use Rattle.basics.specs.Checks.{◌then◌}
use Rattle.basics.proofs.Checks.{then_next}
use Rattle.claim_months.specs.declared.Claim.{Claim}
use Rattle.claim_months.specs.Claim.{claim_check}
use Rattle.claim_months.specs.Windows.{window_check}
use Rattle.rates.specs.Rates.{rate_check}
use Rattle.study.specs.Study.{study_of, own_refusal}
use Rattle.study.proofs.SumOver.{All}
use Rattle.study.proofs.Capacity.{Accepted}
use Rattle.claim_file.specs.declared.WindowDates.{WindowDates}
use Rattle.claim_file.specs.BlockAnswers.{no_claim}
use Rattle.claim_file.specs.Run.{file_run}
use Rattle.claim_file.specs.Files.{run_of, claims_of_blocks, file_claims, Accepts, window_days}
use Rattle.claim_file.specs.RoundTrip.{ClaimFits}
use Rattle.claim_file.proofs.Files.{files-demand-3}
use Rattle.claim_file.proofs.WholeRuns.{sound_blocks, whole_run}
use Rattle.load.specs.Load.{seed_sound, drawn, load_claim, load_from, load, seed_at, load_blocks, load_file}
use Rattle.load.specs.Rebuildable.{Rebuildable}
use Rattle.load.proofs.Seeds.{drawn-seed, load-length, claim-at, steps}
use Rattle.load.proofs.Passing.{claim-passes, claim-fits}
use Rattle.load.proofs.Blocks.{blocks-length, blocks-sound, blocks-back}

passes : (x number b e : ℕ) → seed_sound x ≡ true → window_check b e ≡ 0 → (window_check b e then claim_check (load_claim x number)) ≡ 0
passes x number b e s w = then_next (window_check b e) (claim_check (load_claim x number)) w ∙ claim-passes x number

size_so : (x size : ℕ) → length (load x size) ≡ size
unfolding load
size_so x size = load-length size x 1

numbers : (x size i : ℕ) → i < size → (get_or (load x size) i no_claim).number ≡ suc i
unfolding load_claim
numbers x size i h = ap (λ (c : Claim). c.number) (claim-at x size i h)

-- the blocks of a load of up to 500,000 claims: 33,334 at most, whose numbers two bytes hold
module _ (x size : ℕ) (h : size ≤ 500000) where
  few : 1 + (size + 14) / 15 ≤ 65536
  few = omega arith

  length-so : length (load_blocks x size) ≡ 512 * ((size + 14) / 15)
  unfolding load_blocks
  length-so = blocks-length ((size + 14) / 15) 1 (load x size) (omega arith) few

  whole : length (load_blocks x size) % 512 ≡ 0
  whole = omega (arith, length-so)

  blocks : length (load_blocks x size) / 512 ≡ (size + 14) / 15
  blocks = omega (arith, length-so)

  sound : sound_blocks 1 (load_blocks x size) (length (load_blocks x size) / 512) ≡ true
  unfolding load_blocks
  sound = ap (sound_blocks 1 (load_blocks x size)) blocks ∙ blocks-sound ((size + 14) / 15) 1 (load x size) (omega arith) few

  fits : (k : ℕ) → k < length (load x size) → ClaimFits (get_or (load x size) k no_claim)
  fits k l =
      let m : k < size = omega (arith, size_so x size) in
      subst ClaimFits (sym (claim-at x size k m)) (claim-fits (seed_at x k) (suc k) (omega arith))

  back : file_claims (load_blocks x size) ≡ load x size
  unfolding file_claims load_blocks
  back =
      ap (claims_of_blocks (load_blocks x size)) blocks
      ∙ blocks-back ((size + 14) / 15) 1 (load x size) (omega arith) few (omega (arith, size_so x size)) fits

-- a sound table accepts every claim of a load, as it has a cell 0
accepted : (rates : List ℕ) → rate_check rates 0 ≡ 0 → (n x number : ℕ) → All (Accepted rates) (load_from x number n)
unfolding load_from own_refusal load_claim
accepted rates ok zero x number = tt
accepted rates ok (suc n) x number =
    (then_next (claim_check (load_claim x number)) (rate_check rates 0) (claim-passes x number) ∙ ok, accepted rates ok n (drawn 5 x) (suc number))

module _ (rates : List ℕ) (w : WindowDates) (x size : ℕ) (ok : Accepts w) (sound-rates : rate_check rates 0 ≡ 0) (h : size ≤ 500000) where
  all-accepted : All (Accepted rates) (file_claims (load_blocks x size))
  unfolding load
  all-accepted = subst (All (Accepted rates)) (sym (back x size h)) (accepted rates sound-rates size x 1)

  unrefused : (run_of rates (load_blocks x size) w).refused ≡ 0
  unrefused =
      whole_run rates (load_blocks x size) w ok (whole x size h) (sound x size h) all-accepted (omega (arith, ap length (back x size h), size_so x size))

  has-study : (run_of rates (load_blocks x size) w).study ≡ study_of (window_days w) rates (load x size)
  has-study =
      (files-demand-3 rates (load_blocks x size) w w [] ok (ok, refl, refl)).whole_study unrefused ∙ ap (study_of (window_days w) rates) (back x size h)

runs : (rates : List ℕ) (w : WindowDates) (x size : ℕ) → Accepts w → rate_check rates 0 ≡ 0 → seed_sound x ≡ true → size ≤ 500000
    → ((file_run rates (load_file w x size)).refused ≡ 0) × ((file_run rates (load_file w x size)).study ≡ study_of (window_days w) rates (load x size))
unfolding load_file run_of
runs rates w x size ok r s h = (unrefused rates w x size ok r h, has-study rates w x size ok r h)

pub rebuildable : Rebuildable
rebuildable =
    record {
      seeds = drawn-seed 5;
      steps = steps;
      passes = passes;
      size_so = size_so;
      numbers = numbers;
      read_back = λ x size s h. back x size h;
      runs = runs;
    }
