-- Check 11's sum by columns: with each row, from the last one back, the columns' numbers give the sum of the bytes from that row on.
-- Assumes nothing.
use Prim.Native.Nat.{ℕ, zero, suc, ◌+◌, ◌-◌, ◌*◌, ◌≤◌, ◌<◌}
use mathlib.Core.Path.{◌≡◌, refl, ap, ◌∙◌}
use mathlib.Core.Bool.{true}
use mathlib.Core.List.{List, [], ◌∷◌}
use native.Mathlib.Omega.{arith}
use native.Mathlib.Nat.{mul-zero, mul-add, add-mul, mul-le-mul}
use native.Mathlib.Numerals.{add-one}
use lib.ListN.{get_or, set}
use lib.Dec.{leb}
use borrow.Author.Tests.{le-leb}
use Rattle.basics.specs.Tables.{all_at_most}
use Rattle.basics.proofs.Tests.{and_left, and_right}
use Rattle.basics.proofs.Tables.{table-length, table_at, at-most-list, at-most-at}
use Rattle.claim_file.specs.Bytes.{byte_at}
use Rattle.claim_file.specs.Block.{check_sum}
use Rattle.claim_file.specs.design.Private.{row_at, plus_row, columns_sum}

check-sum-step : (bytes : List ℕ) (n : ℕ) → check_sum bytes (n + 1) ≡ check_sum bytes n + (n + 1) * byte_at bytes n
unfolding check_sum
check-sum-step bytes n = ap (check_sum bytes) (add-one n)

-- the sum of up to 512 bytes: each adds at most 512 × 255
pub check-sum-low : (bytes : List ℕ) → ((k : ℕ) → byte_at bytes k < 256) → (n : ℕ) → n ≤ 512 → check_sum bytes n ≤ 130560 * n
unfolding check_sum
check-sum-low bytes low zero h = omega arith
check-sum-low bytes low (suc n) h =
    let b : byte_at bytes n ≤ 255 = omega (arith, low n) in
    let w : n + 1 ≤ 512 = omega arith in
    let p : (n + 1) * byte_at bytes n ≤ 512 * 255 = mul-le-mul w b in
    omega (arith, check-sum-low bytes low n (omega arith))

-- both halves: the sum of the first 510 bytes, and what the last two add
no_bytes : (bytes : List ℕ) → check_sum bytes 0 ≡ 0
unfolding check_sum
no_bytes bytes = refl

pub both_halves : (bytes : List ℕ) (low high : ℕ) → check_sum bytes 0 + low ≡ check_sum bytes 256 → check_sum bytes 256 + high ≡ check_sum bytes 512
    → low + high ≡ check_sum bytes 510 + (511 * byte_at bytes 510 + 512 * byte_at bytes 511)
both_halves bytes low high p q = omega (arith, no_bytes bytes, check-sum-step bytes 510, check-sum-step bytes 511)

-- rows by their places, and how large two with bounds are together
row-place : (bytes : List ℕ) (at k : ℕ) → k < 16 → get_or (row_at bytes at) k 0 ≡ byte_at bytes (at + k)
unfolding row_at
row-place bytes at k h = table_at 16 (λ c. byte_at bytes (at + c)) k 0 h

pub plus-place : (a b : List ℕ) (k : ℕ) → k < 16 → get_or (plus_row a b) k 0 ≡ get_or a k 0 + get_or b k 0
unfolding plus_row
plus-place a b k h = table_at 16 (λ c. get_or a c 0 + get_or b c 0) k 0 h

plus-low : (l m n : ℕ) (a b : List ℕ) → all_at_most l a ≡ true → all_at_most m b ≡ true → l + m ≤ n → all_at_most n (plus_row a b) ≡ true
unfolding plus_row
plus-low l m n a b p q h =
    at-most-list n (plus_row a b)
    (λ k r.
    let s : k < 16 = omega (arith, table-length 16 (λ c. get_or a c 0 + get_or b c 0)) in
    omega (arith, plus-place a b k s, at-most-at l a k p, at-most-at m b k q))

-- a number stored in a row keeps its bound
pub at-most-set : (m : ℕ) (l : List ℕ) (k v : ℕ) → all_at_most m l ≡ true → v ≤ m → all_at_most m (set l k v) ≡ true
unfolding all_at_most
at-most-set m [] k v e h = e
at-most-set m (x ∷ xs) zero v e h = rw (le-leb v m h) (and_right (leb x m) (all_at_most m xs) e)
at-most-set m (x ∷ xs) (suc k) v e h = rw (and_left (leb x m) (all_at_most m xs) e) (at-most-set m xs k v (and_right (leb x m) (all_at_most m xs) e) h)

-- columns of zeros add nothing
no-columns : (zeros : List ℕ) (at k : ℕ) → all_at_most 0 zeros ≡ true → columns_sum zeros zeros at k ≡ 0
unfolding columns_sum
no-columns zeros at zero z = refl
no-columns zeros at (suc k) z =
    let e : get_or zeros k 0 ≡ 0 = omega (arith, at-most-at 0 zeros k z) in
    rw (e, no-columns zeros at k z, mul-zero (at + k + 1)) refl

-- a row before the others: they weigh 16 more
one-back : (p r s b : ℕ) → 16 * (r + s) + (p + 1) * (s + b) ≡ 16 * r + (p + 16 + 1) * s + (p + 1) * b
one-back p r s b =
    let e : p + 16 + 1 ≡ p + 1 + 16 = omega arith in
    let f = mul-add (p + 1) s b in
    let g = add-mul (p + 1) 16 s in
    rw e (omega arith)

row_back : (bytes sums byRow : List ℕ) (at k : ℕ) → k ≤ 16
    → check_sum bytes at + columns_sum (plus_row sums (row_at bytes at)) (plus_row byRow sums) at k ≡ check_sum bytes (at + k) + columns_sum sums byRow (at + 16) k
unfolding columns_sum
row_back bytes sums byRow at zero h =
    let e : at + 0 ≡ at = omega arith in
    rw e refl
row_back bytes sums byRow at (suc k) h =
    let e : at + k + 16 ≡ at + 16 + k = omega arith in
    let g : at + suc k ≡ at + k + 1 = omega arith in
    let c = row_back bytes sums byRow at k (omega arith) in
    let f = rw e at (one-back (at + k) (get_or byRow k 0) (get_or sums k 0) (byte_at bytes (at + k))) in
    let s = check-sum-step bytes (at + k) in
    rw (g, plus-place sums (row_at bytes at) k h, plus-place byRow sums k h, row-place bytes at k h) (omega arith)

-- the columns' numbers of the rows behind the first `rows` from a place on: they give the sum of these rows' bytes, and 16 bits hold them
pub record Columns (bytes : List ℕ) (at rows : ℕ) (sums byRow : List ℕ) : Type 0 where
  pub total : check_sum bytes (at + 16 * rows) + columns_sum sums byRow (at + 16 * rows) 16 ≡ check_sum bytes (at + 256)
  pub sums-low : all_at_most (255 * (16 - rows)) sums ≡ true
  pub by-row-low : all_at_most (4080 * (16 - rows)) byRow ≡ true

pub no_rows : (bytes : List ℕ) (at : ℕ) (zeros : List ℕ) → all_at_most 0 zeros ≡ true → Columns bytes at 16 zeros zeros
no_rows bytes at zeros z =
    record { total = omega (arith, no-columns zeros (at + 16 * 16) 16 z); sums-low = z; by-row-low = z }

module _ (bytes : List ℕ) (at rows : ℕ) (sums byRow : List ℕ) (some : 0 < rows) (all : rows ≤ 16) (c : Columns bytes at rows sums byRow) where
  pub by-row-fits : all_at_most 65535 (plus_row byRow sums) ≡ true
  by-row-fits = plus-low (4080 * (16 - rows)) (255 * (16 - rows)) 65535 byRow sums c.by-row-low c.sums-low (omega arith)

  module _ (row : List ℕ) (low : all_at_most 255 row ≡ true) where
    pub sums-fit : all_at_most 65535 (plus_row sums row) ≡ true
    sums-fit = plus-low (255 * (16 - rows)) 255 65535 sums row c.sums-low low (omega arith)

    pub row-added : row ≡ row_at bytes (at + 16 * (rows - 1)) → Columns bytes at (rows - 1) (plus_row sums row) (plus_row byRow sums)
    row-added e =
        let here : at + 16 * (rows - 1) + 16 ≡ at + 16 * rows = omega arith in
        record {
          total = rw e (row_back bytes sums byRow (at + 16 * (rows - 1)) 16 (omega arith) ∙ rw here c.total);
          sums-low = plus-low (255 * (16 - rows)) 255 (255 * (16 - (rows - 1))) sums row c.sums-low low (omega arith);
          by-row-low = plus-low (4080 * (16 - rows)) (255 * (16 - rows)) (4080 * (16 - (rows - 1))) byRow sums c.by-row-low c.sums-low (omega arith);
        }

-- a column adds at most 16 × 65,280 + 272 × 4,080
pub column-low : (w s r : ℕ) → w ≤ 272 → s ≤ 4080 → r ≤ 65280 → 16 * r + w * s ≤ 2154240
column-low w s r h l q = omega (arith, mul-le-mul h l)

pub ruleset column_low = (column-low, at-most-at)

pub ruleset columns = (no_rows, by-row-fits, sums-fit)
