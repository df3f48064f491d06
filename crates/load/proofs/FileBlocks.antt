-- The blocks of a load's file, one by one: what stands in its 512 bytes from each block's place on.
-- Assumes nothing.
use Prim.Native.Nat.{ℕ, zero, suc, ◌+◌, ◌-◌, ◌*◌, ◌/◌, ◌≤◌, ◌<◌, min}
use mathlib.Core.Path.{◌≡◌, sym, ap, ◌∙◌}
use mathlib.Core.List.{List, ◌∷◌, ◌++◌}
use native.Mathlib.Omega.{arith}
use native.Mathlib.Nat.{add_comm, mul-suc}
use lib.ListN.{take, drop}
use lib.Seq.{take_at, drop_at, drop-drop}
use Rattle.claim_months.specs.declared.Claim.{Claim}
use Rattle.claim_file.specs.declared.WindowDates.{WindowDates}
use Rattle.claim_file.specs.Block.{window_bytes, bytes_of_block}
use Rattle.claim_file.proofs.Files.{window-length}
use Rattle.load.specs.Load.{drawn, load_claim, load_from, load, seed_at, blocks_from, load_blocks, load_file}
use Rattle.load.proofs.Seeds.{later-seed}
use Rattle.load.proofs.Blocks.{behind, first_block}

-- a load from its step of place j on, and its first j claims
from_step : (j n x number : ℕ) → j ≤ n → drop j (load_from x number n) ≡ load_from (seed_at x j) (number + j) (n - j)
unfolding load_from seed_at
from_step zero n x number h =
    let e : number ≡ number + 0 = omega arith in
    let m : n ≡ n - 0 = omega arith in
    λ i. load_from x (e i) (m i)
from_step (suc j) zero x number h = absurd (omega arith)
from_step (suc j) (suc n) x number h =
    let e : suc number + j ≡ number + suc j = omega arith in
    let m : n - j ≡ suc n - suc j = omega arith in
    from_step j n (drawn 5 x) (suc number) (omega arith) ∙ (λ i. load_from (later-seed x j i) (e i) (m i))

first-steps : (j n x number : ℕ) → take j (load_from x number n) ≡ load_from x number (min j n)
unfolding load_from
first-steps zero n x number = let e : 0 ≡ min 0 n = omega arith in ap (load_from x number) e
first-steps (suc j) zero x number = let e : 0 ≡ min (suc j) 0 = omega arith in ap (load_from x number) e
first-steps (suc j) (suc n) x number =
    let e : suc (min j n) ≡ min (suc j) (suc n) = omega arith in
    ap (λ (cs : List Claim). load_claim x number ∷ cs) (first-steps j n (drawn 5 x) (suc number)) ∙ ap (load_from x number) e

further : {A : Type 0} (n k : ℕ) (xs : List A) → drop (n * k) (drop n xs) ≡ drop (n * suc k) xs
further {A} n k xs = drop-drop (n * k) n xs ∙ ap (λ (m : ℕ). drop m xs) (sym (mul-suc n k ∙ add_comm (n * k) n))

-- from the block of place k on
from_block : (k n number : ℕ) (cs : List Claim) → 1 ≤ number → number + n ≤ 65536 → k ≤ n
    → drop (512 * k) (blocks_from n number cs) ≡ blocks_from (n - k) (number + k) (drop (15 * k) cs)
unfolding blocks_from
from_block zero n number cs l h m =
    let a : n ≡ n - 0 = omega arith in
    let b : number ≡ number + 0 = omega arith in
    λ i. blocks_from (a i) (b i) cs
from_block (suc k) zero number cs l h m = absurd (omega arith)
from_block (suc k) (suc n) number cs l h m =
    let rest = blocks_from n (suc number) (drop 15 cs) in
    let a : n - k ≡ suc n - suc k = omega arith in
    let b : suc number + k ≡ number + suc k = omega arith in
    let c : drop (15 * k) (drop 15 cs) ≡ drop (15 * suc k) cs = further 15 k cs in
    sym (further 512 k (bytes_of_block number (take 15 cs) ++ rest))
    ∙ ap (drop (512 * k)) (behind number cs rest l (omega arith))
    ∙ from_block k n (suc number) (drop 15 cs) (omega arith) (omega arith) (omega arith)
    ∙ (λ i. blocks_from (a i) (b i) (c i))

first_of : (n number : ℕ) (cs : List Claim) → 1 ≤ number → number ≤ 65535 → 0 < n → take 512 (blocks_from n number cs) ≡ bytes_of_block number (take 15 cs)
unfolding blocks_from
first_of zero number cs l h m = absurd (omega arith)
first_of (suc n) number cs l h m = first_block number cs (blocks_from n (suc number) (drop 15 cs)) l h

module _ (w : WindowDates) (x size : ℕ) where
  pub window-block : take 512 (drop (512 * 0) (load_file w x size)) ≡ window_bytes w.first w.last
  unfolding load_file
  window-block = take_at (window_bytes w.first w.last) (load_blocks x size) 512 (window-length w.first w.last)

  claims-block : (k : ℕ) → size ≤ 500000 → 15 * k < size → take 512 (drop (512 * suc k) (load_file w x size)) ≡ bytes_of_block (1 + k) (take 15 (drop (15 * k) (load x size)))
  unfolding load_file load_blocks
  claims-block k h l =
      let n = (size + 14) / 15 in
      ap (take 512)
      (sym (further 512 k (load_file w x size))
      ∙ ap (drop (512 * k)) (drop_at (window_bytes w.first w.last) (load_blocks x size) 512 (window-length w.first w.last))
      ∙ from_block k n 1 (load x size) (omega arith) (omega arith) (omega arith))
      ∙ first_of (n - k) (1 + k) (drop (15 * k) (load x size)) (omega arith) (omega arith) (omega arith)

  -- the block after k others has the claims from number 15 × k + 1 on, up to fifteen
  pub block-after : (k : ℕ) → size ≤ 500000 → 15 * k < size
      → take 512 (drop (512 * suc k) (load_file w x size)) ≡ bytes_of_block (1 + k) (load_from (seed_at x (15 * k)) (1 + 15 * k) (min 15 (size - 15 * k)))
  unfolding load
  block-after k h l =
      claims-block k h l
      ∙ ap (bytes_of_block (1 + k)) (ap (take 15) (from_step (15 * k) size x 1 (omega arith)) ∙ first-steps 15 (size - 15 * k) (seed_at x (15 * k)) (1 + 15 * k))
