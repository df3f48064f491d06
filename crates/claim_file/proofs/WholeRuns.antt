-- A file of sound blocks whose claims are all accepted, at most 500,000 of them, runs to its end unrefused.
-- Assumes nothing.
use Prim.Native.Nat.{ℕ, zero, suc, ◌+◌, ◌/◌, ◌%◌, ◌≤◌}
use mathlib.Core.Path.{◌≡◌, refl, ap, ◌∙◌}
use mathlib.Core.Bool.{Bool, true, ◌&&◌, and-false}
use mathlib.Core.List.{List, [], ◌∷◌, ◌++◌}
use lib.ListN.{length, take, drop, length-append}
use lib.Dec.{ltb, eqb}
use borrow.Author.Tests.{eq-eqb, lt-ltb}
use Rattle.basics.specs.Checks.{check}
use Rattle.basics.proofs.Tests.{tests, and_left, and_right}
use Rattle.basics.proofs.Checks.{then_next}
use Rattle.claim_months.specs.declared.Claim.{Claim}
use Rattle.study.proofs.SumOver.{All}
use Rattle.study.proofs.Capacity.{Accepted}
use Rattle.study.proofs.Built.{number_after}
use Rattle.claim_file.specs.declared.WindowDates.{WindowDates}
use Rattle.claim_file.specs.Runs.{FileRun}
use Rattle.claim_file.specs.Block.{block_claim, claim_count, block_sound}
use Rattle.claim_file.specs.Files.{run_of, claims_of_block, claims_of_blocks, file_claims, Accepts}
use Rattle.claim_file.proofs.BlockTrips.{length-read}
use Rattle.claim_file.proofs.Files.{Plain, plain_claims, plain_block, plain_blocks, fed_plain, first, with_study, run-plain}

-- the n blocks of some bytes, from the number due on, are sound
unfoldable pub sound_blocks : ℕ → List ℕ → ℕ → Bool
sound_blocks due bytes zero = true
sound_blocks due bytes (suc n) = block_sound due (take 512 bytes) && sound_blocks (suc due) (drop 512 bytes) n

all-parts : (P : Claim → Type 0) (xs ys : List Claim) → All P (xs ++ ys) → All P xs × All P ys
all-parts P [] ys a = (tt, a)
all-parts P (x ∷ xs) ys a = let r = all-parts P xs ys a.1 in ((a.0, r.0), r.1)

module _ (rates : List ℕ) where
  -- an accepted claim is taken where fewer than 500,000 were before it
  is-taken : (cs : List Claim) (c : Claim) → Accepted rates c → length cs + 1 ≤ 500000 → eqb (number_after rates cs c) 0 ≡ true
  unfolding number_after
  is-taken cs c a h =
      eq-eqb _ 0
      (then_next _ (check (ltb (length cs) 500000) 9) a ∙ ap (λ (t : Bool). check t 9) (lt-ltb (length cs) 500000 (omega tests)))

  -- a plain run that goes on at a block with so many claims taken
  record GoesOn (due taken : ℕ) (p : Plain) : Type 0 where
    unrefused : p.refused ≡ 0
    due-so : p.due ≡ due
    taken-so : length p.claims ≡ taken

  claims-taken : (p : Plain) (bytes : List ℕ) (n k : ℕ) (cs : List Claim) → All (Accepted rates) (claims_of_block bytes k n) → length cs + n ≤ 500000
      → GoesOn (suc p.due) (length cs + n) (plain_claims rates p cs bytes k n)
  unfolding plain_claims claims_of_block
  claims-taken p bytes zero k cs a h = record { unrefused = refl; due-so = omega tests; taken-so = omega tests }
  claims-taken p bytes (suc n) k cs a h =
      let c = block_claim bytes k in
      let r = claims-taken p bytes n (suc k) (c ∷ cs) a.1 (omega tests) in
      rw (is-taken cs c a.0 (omega tests)) (record { unrefused = r.unrefused; due-so = r.due-so; taken-so = omega (tests, r.taken-so) })

  block-taken : (due taken : ℕ) (p : Plain) (bytes : List ℕ) → GoesOn due taken p → block_sound due bytes ≡ true
      → All (Accepted rates) (claims_of_block bytes 0 (claim_count bytes)) → taken + claim_count bytes ≤ 500000
      → GoesOn (suc due) (taken + claim_count bytes) (plain_block rates p bytes)
  unfolding plain_block
  block-taken due taken p bytes g s a h =
      let r = claims-taken p bytes (claim_count bytes) 0 p.claims a (omega (tests, g.taken-so)) in
      rw (ap (λ (d : ℕ). block_sound d bytes) g.due-so ∙ s)
      (record { unrefused = r.unrefused; due-so = omega (tests, r.due-so, g.due-so); taken-so = omega (tests, r.taken-so, g.taken-so) })

  blocks-taken : (n due taken : ℕ) (p : Plain) (bytes : List ℕ) → GoesOn due taken p → sound_blocks due bytes n ≡ true
      → All (Accepted rates) (claims_of_blocks bytes n) → taken + length (claims_of_blocks bytes n) ≤ 500000 → (plain_blocks rates p bytes n).refused ≡ 0
  unfolding plain_blocks sound_blocks claims_of_blocks
  blocks-taken zero due taken p bytes g s a h = g.unrefused
  blocks-taken (suc n) due taken p bytes g s a h =
      let b = take 512 bytes in
      let here = claims_of_block b 0 (claim_count b) in
      let later = claims_of_blocks (drop 512 bytes) n in
      let l = length-append here later in
      let m = length-read b (claim_count b) 0 in
      let x = all-parts (Accepted rates) here later a in
      let on = block-taken due taken p b g (and_left (block_sound due b) (sound_blocks (suc due) (drop 512 bytes) n) s) x.0 (omega tests) in
      rw (eq-eqb p.refused 0 g.unrefused)
      (blocks-taken n (suc due) (taken + claim_count b) (plain_block rates p b) (drop 512 bytes) on
      (and_right (block_sound due b) (sound_blocks (suc due) (drop 512 bytes) n) s) x.1 (omega tests))

  fed-taken : (rest : List ℕ) → length rest % 512 ≡ 0 → sound_blocks 1 rest (length rest / 512) ≡ true → All (Accepted rates) (file_claims rest)
      → length (file_claims rest) ≤ 500000 → (fed_plain rates first rest).refused ≡ 0
  unfolding fed_plain file_claims
  fed-taken rest e s a h =
      let g : GoesOn 1 0 first = record { unrefused = refl; due-so = refl; taken-so = refl } in
      rw (e, and-false) (blocks-taken (length rest / 512) 1 0 first rest g s a (omega tests))

pub whole_run : (rates rest : List ℕ) (w : WindowDates) → Accepts w → length rest % 512 ≡ 0 → sound_blocks 1 rest (length rest / 512) ≡ true
    → All (Accepted rates) (file_claims rest) → length (file_claims rest) ≤ 500000 → (run_of rates rest w).refused ≡ 0
unfolding with_study
whole_run rates rest w ok e s a h = ap (λ (r : FileRun). r.refused) (run-plain rates w ok rest) ∙ fed-taken rates rest e s a h
