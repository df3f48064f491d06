-- A sealed list of a number, a count, 13 zeros and 494 bytes more: it is framed, and each framed list of bytes is one.
-- Assumes nothing.
use Prim.Native.Nat.{ℕ, ◌+◌, ◌*◌, ◌/◌, ◌%◌, ◌<◌}
use mathlib.Core.Path.{◌≡◌, refl, sym, ap, ◌∙◌}
use mathlib.Core.Bool.{true, and-eq-true_iff}
use mathlib.Core.List.{List, ◌∷◌, ◌++◌, append_assoc}
use native.Mathlib.Omega.{arith}
use native.Mathlib.Nat.{mod-eq_of_lt}
use lib.ListN.{length, get_or, drop, length-append, drop_of_length-le, get_or-append}
use lib.Seq.{get_or-append-add}
use borrow.Author.Tests.{eqb-true, eq-eqb}
use Rattle.claim_file.specs.Bytes.{byte_at, two_at, zero_from, two, zeros}
use Rattle.claim_file.specs.Block.{block_number, claim_count, check_number, framed, sealed}
use Rattle.claim_file.proofs.BlockTests.{framed_is, framed-length}
use Rattle.claim_file.proofs.Changed.{check-sum-cong}
use Rattle.claim_file.proofs.ByteStores.{length-zeros}
use Rattle.claim_file.proofs.Split.{part, part-split, zero-split, two-read}

-- the check goes by the first 510 bytes
pub check-append : (bytes rest : List ℕ) → length bytes ≡ 510 → check_number (bytes ++ rest) ≡ check_number bytes
unfolding check_number byte_at
check-append bytes rest h =
    ap (λ (w : ℕ). w % 65521) (check-sum-cong (bytes ++ rest) bytes 510 (λ i b. get_or-append bytes rest 0 i (omega arith)))

-- a number's two bytes are the number
pub two-whole : (n : ℕ) → n < 65536 → n % 256 + 256 * (n / 256 % 256) ≡ n
two-whole n h =
    let l : n / 256 < 256 = omega arith in
    let e : n / 256 % 256 ≡ n / 256 = mod-eq_of_lt l in
    omega arith

check-small : (bytes : List ℕ) → check_number bytes < 65536
unfolding check_number
check-small bytes = omega arith

-- the check that a sealed list carries
carried : (bytes : List ℕ) → length bytes ≡ 510 → two_at (sealed bytes) 510 ≡ check_number bytes
unfolding sealed two_at byte_at
carried bytes h =
    let t = two (check_number bytes) in
    let l : 510 ≡ length bytes + 0 = omega arith in
    let u : 511 ≡ length bytes + 1 = omega arith in
    let a = ap (λ (n : ℕ). get_or (bytes ++ t) n 0) l ∙ get_or-append-add bytes t 0 0 in
    let b = ap (λ (n : ℕ). get_or (bytes ++ t) n 0) u ∙ get_or-append-add bytes t 1 0 in
    (λ i. a i + 256 * b i) ∙ two-whole (check_number bytes) (check-small bytes)

-- a number, a count, 13 zeros and the rest
abbrev pub body : ℕ → ℕ → List ℕ → List ℕ
body number count middle = number % 256 ∷ number / 256 % 256 ∷ count ∷ (zeros 13 ++ middle)

module _ (number count : ℕ) (middle : List ℕ) (long : length middle ≡ 494) where
  body-length : length (body number count middle) ≡ 510
  body-length = let a = length-append (zeros 13) middle in let b = length-zeros 13 in omega arith

  sealed-length : length (sealed (body number count middle)) ≡ 512
  unfolding sealed
  sealed-length =
      let b = body number count middle in
      let a = length-append b (two (check_number b)) in
      let l = body-length in
      omega arith

  pub sealed-framed : number < 65536 → framed number (sealed (body number count middle)) ≡ true
  unfolding sealed two_at byte_at zeros zero_from check_number
  sealed-framed h =
      let b = body number count middle in
      let l = body-length in
      framed_is number (sealed b)
      (eq-eqb _ _ sealed-length)
      (eq-eqb _ _ (two-whole number h))
      (eq-eqb _ _ (check-append b (two (check_number b)) l ∙ sym (carried b l)))
      refl

pub sealed-drop : (number count : ℕ) (middle : List ℕ)
    → drop 16 (sealed (body number count middle)) ≡ middle ++ two (check_number (body number count middle))
unfolding sealed zeros
sealed-drop number count middle = refl

-- and back
module _ (due : ℕ) (bytes middle : List ℕ) (so : framed due bytes ≡ true) (small : (j : ℕ) → j < 512 → byte_at bytes j < 256)
    (rest : drop 16 bytes ≡ middle ++ drop 510 bytes) (long : length middle ≡ 494) where
  size : length bytes ≡ 512
  size = framed-length due bytes so

  last : drop 510 bytes ≡ two (check_number bytes)
  unfolding framed block_number part
  last =
      let t = simp and-eq-true_iff at so in
      let n = size in
      let c : two_at bytes 510 ≡ check_number bytes = sym (eqb-true _ _ t.0.1) in
      part-split bytes 2 510 (omega arith)
      ∙ ap (λ (r : List ℕ). byte_at bytes 510 ∷ byte_at bytes 511 ∷ r) (drop_of_length-le bytes {i = 512} (omega arith))
      ∙ sym (two-read bytes 510 (small 510 (omega arith)) (small 511 (omega arith)))
      ∙ ap two c

  whole : bytes ≡ body due (claim_count bytes) middle ++ drop 510 bytes
  unfolding framed block_number claim_count part
  whole =
      let t = simp and-eq-true_iff at so in
      let n = size in
      let z = zero-split bytes 3 13 (omega arith) t.1 ∙ ap (λ (r : List ℕ). zeros 13 ++ r) rest ∙ sym (append_assoc (zeros 13) middle (drop 510 bytes)) in
      let d : two (two_at bytes 0) ≡ two due = ap two (eqb-true _ _ t.0.0.1) in
      let h = sym (two-read bytes 0 (small 0 (omega arith)) (small 1 (omega arith))) ∙ d in
      part-split bytes 3 0 (omega arith) ∙ (λ i. h i ++ (byte_at bytes 2 ∷ z i))

  pub sealed-again : sealed (body due (claim_count bytes) middle) ≡ bytes
  unfolding sealed
  sealed-again =
      let b = body due (claim_count bytes) middle in
      let c : check_number b ≡ check_number bytes =
      sym (ap check_number whole ∙ check-append b (drop 510 bytes) (body-length due (claim_count bytes) middle long)) in
      ap (λ (k : ℕ). b ++ two k) c ∙ ap (λ (r : List ℕ). b ++ r) (sym last) ∙ sym whole
