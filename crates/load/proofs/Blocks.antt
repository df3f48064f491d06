-- Claims written in blocks of fifteen, from some number on: the blocks are sound, and read back to the claims.
-- Assumes nothing.
use Prim.Native.Nat.{ℕ, zero, suc, ◌+◌, ◌*◌, ◌≤◌, ◌<◌}
use mathlib.Core.Path.{◌≡◌, refl, sym, ap, subst, ◌∙◌}
use mathlib.Core.Bool.{true, ◌&&◌}
use mathlib.Core.List.{List, [], ◌∷◌, ◌++◌}
use native.Mathlib.Omega.{arith}
use lib.ListN.{length, get_or, take, drop, length-append, length-take, length-drop, take-append-drop}
use lib.Seq.{take_at, drop_at, get_or-take, get_or-drop}
use Rattle.claim_months.specs.declared.Claim.{Claim}
use Rattle.claim_file.specs.Block.{claim_count, block_sound, bytes_of_block}
use Rattle.claim_file.specs.BlockAnswers.{no_claim}
use Rattle.claim_file.specs.Files.{claims_of_block, claims_of_blocks}
use Rattle.claim_file.specs.RoundTrip.{ClaimFits}
use Rattle.claim_file.proofs.ReadBack.{block-sound, block-length, block-claims}
use Rattle.claim_file.proofs.WholeRuns.{sound_blocks}
use Rattle.load.specs.Load.{blocks_from}

abbrev Fit : List Claim → Type 0
Fit cs = (k : ℕ) → k < length cs → ClaimFits (get_or cs k no_claim)

few : (cs : List Claim) → length (take 15 cs) ≤ 15
few cs = omega (arith, length-take 15 cs)

-- the block of a number, and the rest of some bytes that start with it
module _ (number : ℕ) (cs : List Claim) (rest : List ℕ) (l : 1 ≤ number) (h : number ≤ 65535) where
  size : length (bytes_of_block number (take 15 cs)) ≡ 512
  size = block-length number (take 15 cs) (few cs) l h

  pub first_block : take 512 (bytes_of_block number (take 15 cs) ++ rest) ≡ bytes_of_block number (take 15 cs)
  first_block = take_at (bytes_of_block number (take 15 cs)) rest 512 size

  pub behind : drop 512 (bytes_of_block number (take 15 cs) ++ rest) ≡ rest
  behind = drop_at (bytes_of_block number (take 15 cs)) rest 512 size

pub blocks-length : (n number : ℕ) (cs : List Claim) → 1 ≤ number → number + n ≤ 65536 → length (blocks_from n number cs) ≡ 512 * n
unfolding blocks_from
blocks-length zero number cs l h = refl
blocks-length (suc n) number cs l h =
    let b = size number cs [] l (omega arith) in
    let r = blocks-length n (suc number) (drop 15 cs) (omega arith) (omega arith) in
    length-append (bytes_of_block number (take 15 cs)) (blocks_from n (suc number) (drop 15 cs)) ∙ omega arith

pub blocks-sound : (n number : ℕ) (cs : List Claim) → 1 ≤ number → number + n ≤ 65536 → sound_blocks number (blocks_from n number cs) n ≡ true
unfolding blocks_from sound_blocks
blocks-sound zero number cs l h = refl
blocks-sound (suc n) number cs l h =
    let rest = blocks_from n (suc number) (drop 15 cs) in
    let a = ap (block_sound number) (first_block number cs rest l (omega arith)) ∙ block-sound number (take 15 cs) (few cs) l (omega arith) in
    let b = ap (λ (r : List ℕ). sound_blocks (suc number) r n) (behind number cs rest l (omega arith))
    ∙ blocks-sound n (suc number) (drop 15 cs) (omega arith) (omega arith) in
    λ i. a i && b i

-- the claims of the first fifteen places fit, and those behind them
take-fits : (cs : List Claim) → Fit cs → Fit (take 15 cs)
take-fits cs f k h =
    let l = length-take 15 cs in
    subst ClaimFits (sym (get_or-take 15 cs k no_claim (omega arith))) (f k (omega arith))

drop-fits : (cs : List Claim) → Fit cs → Fit (drop 15 cs)
drop-fits cs f k h = subst ClaimFits (sym (get_or-drop 15 cs k no_claim)) (f (15 + k) (omega (arith, length-drop 15 cs)))

no-claims : (cs : List Claim) → length cs ≤ 0 → [] ≡ cs
no-claims [] h = refl
no-claims (c ∷ cs) h = absurd (omega arith)

pub blocks-back : (n number : ℕ) (cs : List Claim) → 1 ≤ number → number + n ≤ 65536 → length cs ≤ 15 * n → Fit cs → claims_of_blocks (blocks_from n number cs) n ≡ cs
unfolding blocks_from claims_of_blocks
blocks-back zero number cs l h m f = no-claims cs (omega arith)
blocks-back (suc n) number cs l h m f =
    let rest = blocks_from n (suc number) (drop 15 cs) in
    let a = ap (λ (b : List ℕ). claims_of_block b 0 (claim_count b)) (first_block number cs rest l (omega arith))
    ∙ block-claims number (take 15 cs) (few cs) (take-fits cs f) in
    let b = ap (λ (r : List ℕ). claims_of_blocks r n) (behind number cs rest l (omega arith))
    ∙ blocks-back n (suc number) (drop 15 cs) (omega arith) (omega arith) (omega (arith, length-drop 15 cs)) (drop-fits cs f) in
    (λ i. a i ++ b i) ∙ take-append-drop 15 cs
