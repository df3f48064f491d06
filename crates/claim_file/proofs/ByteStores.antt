-- Runs of stores into a list: one run after another is one run, and a run over the whole list is what was stored.
-- Assumes nothing.
use Prim.Native.Nat.{ℕ, zero, suc, ◌+◌, ◌*◌, ◌/◌, ◌%◌, ◌≤◌, ◌<◌}
use mathlib.Core.Path.{◌≡◌, refl, sym, ap, ◌∙◌}
use mathlib.Core.List.{List, [], ◌∷◌, ◌++◌, append-nil, append_assoc}
use native.Mathlib.Omega.{arith}
use native.Mathlib.Nat.{mul-add-div, div-div-eq-div-mul, mul-add-mod_self_left}
use native.Mathlib.Numerals.{add-one}
use lib.ListN.{length, get_or, take, replicate, length-append, drop_of_length-le}
use lib.Seq.{sets, sets-eq, take-suc, length-take-le}
use borrow.Author.Tests.{le-leb}
use Rattle.basics.proofs.Stores.{run}
use Rattle.claim_months.specs.declared.Claim.{Claim}
use Rattle.claim_file.specs.Bytes.{two, zeros}
use Rattle.claim_file.specs.Record.{claim_bytes, all_claim_bytes}
use Rattle.claim_file.specs.BlockAnswers.{record_after}
use Rattle.claim_file.proofs.RecordParts.{record-stored}

pub sets-all : (l vs : List ℕ) → length vs ≡ length l → sets l 0 vs ≡ vs
sets-all l vs e =
    let s = sets-eq vs l 0 (omega arith) in
    s ∙ ap (λ (r : List ℕ). vs ++ r) (drop_of_length-le l {i = 0 + length vs} (omega arith)) ∙ append-nil vs

pub length-zeros : (n : ℕ) → length (zeros n) ≡ n
unfolding zeros
length-zeros zero = refl
length-zeros (suc n) = ap suc (length-zeros n)

pub length-all : (cs : List Claim) → length (all_claim_bytes cs) ≡ 32 * length cs
unfolding all_claim_bytes claim_bytes
length-all [] = refl
length-all (c ∷ cs) = length-append (claim_bytes c) (all_claim_bytes cs) ∙ let h = length-all cs in omega arith

pub zeros-replicate : (n : ℕ) → replicate n 0 ≡ zeros n
unfolding zeros
zeros-replicate zero = refl
zeros-replicate (suc n) = ap (λ (r : List ℕ). 0 ∷ r) (zeros-replicate n)

-- a number's four bytes, from its halves
pub four_bytes : (n : ℕ)
    → two (n % 65536) ++ two (n / 65536) ≡ n % 256 ∷ n / 256 % 256 ∷ n / 65536 % 256 ∷ n / 16777216 % 256 ∷ []
four_bytes n =
    let a : n % 65536 % 256 ≡ n % 256 = omega arith in
    let e : n ≡ 256 * (256 * (n / 65536)) + n % 65536 = omega arith in
    let h : n / 256 ≡ 256 * (n / 65536) + n % 65536 / 256 =
    ap (λ (k : ℕ). k / 256) e ∙ mul-add-div (omega arith) (256 * (n / 65536)) (n % 65536) in
    let b : n % 65536 / 256 % 256 ≡ n / 256 % 256 =
    sym (ap (λ (k : ℕ). k % 256) h ∙ mul-add-mod_self_left 256 (n / 65536) (n % 65536 / 256)) in
    let c : n / 65536 / 256 % 256 ≡ n / 16777216 % 256 = ap (λ (k : ℕ). k % 256) (div-div-eq-div-mul n 65536 256) in
    λ i. a i ∷ b i ∷ n / 65536 % 256 ∷ c i ∷ []

all_append : (xs ys : List Claim) → all_claim_bytes (xs ++ ys) ≡ all_claim_bytes xs ++ all_claim_bytes ys
unfolding all_claim_bytes
all_append [] ys = refl
all_append (x ∷ xs) ys =
    ap (λ (r : List ℕ). claim_bytes x ++ r) (all_append xs ys) ∙ sym (append_assoc (claim_bytes x) (all_claim_bytes xs) (all_claim_bytes ys))

-- one claim more
all_more : (cs : List Claim) (n : ℕ) (d : Claim) → n < length cs
    → all_claim_bytes (take n cs) ++ claim_bytes (get_or cs n d) ≡ all_claim_bytes (take (n + 1) cs)
unfolding all_claim_bytes claim_bytes
all_more cs n d h =
    sym (ap (λ (k : ℕ). all_claim_bytes (take k cs)) (add-one n)
    ∙ ap all_claim_bytes (take-suc cs n d h)
    ∙ all_append (take n cs) (get_or cs n d ∷ []))

-- the first n of some claims' records in one run from a byte on: none of them, and one more, stored by its bytes or by `write_record`
module _ (l : List ℕ) (at : ℕ) (cs : List Claim) where
  pub none-stored : l ≡ sets l at (all_claim_bytes (take 0 cs))
  unfolding all_claim_bytes
  none-stored = refl

  pub one-stored : (a b : List ℕ) (n j : ℕ) (d : Claim) → n < length cs → j ≡ at + 32 * n → a ≡ sets l at (all_claim_bytes (take n cs))
      → b ≡ sets a j (claim_bytes (get_or cs n d)) → b ≡ sets l at (all_claim_bytes (take (n + 1) cs))
  one-stored a b n j d h e p q =
      let t = length-all (take n cs) in
      let k = length-take-le n cs (omega arith) in
      run l a b (all_claim_bytes (take n cs)) (claim_bytes (get_or cs n d)) at j (omega arith) p q ∙ ap (sets l at) (all_more cs n d h)

  pub one_written : (a b : List ℕ) (n j : ℕ) (d : Claim) → n < length cs → j ≡ at + 32 * n → j + 32 ≤ length a
      → a ≡ sets l at (all_claim_bytes (take n cs)) → b ≡ record_after (get_or cs n d) j a → b ≡ sets l at (all_claim_bytes (take (n + 1) cs))
  one_written a b n j d h e r p q =
      one-stored a b n j d h e p (q ∙ sym (record-stored a j (get_or cs n d) (le-leb (j + 32) (length a) r)))
