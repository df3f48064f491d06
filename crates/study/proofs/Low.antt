-- Sums that one test of bits shows to be low, and what raising a column leaves of the others.
-- Assumes nothing.
use Prim.Native.Nat.{ℕ, ◌+◌, ◌-◌, ◌*◌, ◌/◌, ◌≤◌, ◌<◌}
use mathlib.Core.Path.{◌≡◌, refl, sym, ap, subst, ◌∙◌}
use mathlib.Core.Bool.{true, and-false}
use mathlib.Core.List.{List}
use native.Mathlib.Omega.{arith}
use borrow.Author.Tests.{ne_eqb}
use lib.Bits.{bit_or}
use lib.Dec.{eqb}
use lib.IntN.{ℤ, pos, nat_abs}
use mir.Syntax.{w64}
use mir.Val.{to_z, of_z}
use mir.Facts.{to_z_pos}
use Rattle.std.proofs.lemmas.Nat.{le_or_l, le_or_r}
use Rattle.basics.proofs.Tests.{tests}
use Rattle.study.specs.Sums.{group_at, column_at}
use Rattle.study.specs.design.LentAdding.{guarded_sum, guarded_plus}
use Rattle.study.specs.design.Private.{share_by, one_figure, LowColumn}
use Rattle.study.proofs.Algebra.{at}
use Rattle.study.proofs.Raised.{Figures, guarded-at, share-at, no-figure, sum-none}

-- a number whose bits are less than half of all is what they are
pub bits-low : (x : ℤ) (r n : ℕ) → to_z w64 (of_z w64 x) ≡ x → r ≡ of_z w64 x → r ≤ n → n < 9223372036854775808 → nat_abs x ≤ n
bits-low x r n f e low h =
    let small : r < 9223372036854775808 = omega arith in
    let is : nat_abs x ≡ r = ap nat_abs (sym f ∙ ap (to_z w64) (sym e) ∙ to_z_pos w64 small) in
    omega arith

-- three numbers whose bits together are low are
pub or-low : (a b c n : ℕ) → bit_or (bit_or a b) c ≤ n → (a ≤ n) × (b ≤ n) × (c ≤ n)
or-low a b c n h =
    let p = le_or_l (bit_or a b) c in
    let q = le_or_r (bit_or a b) c in
    let r = le_or_l a b in
    let s = le_or_r a b in
    (omega (arith, p, q, r, s), omega (arith, p, q, r, s), omega (arith, p, q, r, s))

-- the one test
pub both-low : (x y : ℕ) → eqb (bit_or (x / 18014398509481984) (y / 4611686018427387904)) 0 ≡ true → (x ≤ 18014398509481983) × (y ≤ 4611686018427387903)
both-low x y e =
    let p = le_or_l (x / 18014398509481984) (y / 4611686018427387904) in
    let q = le_or_r (x / 18014398509481984) (y / 4611686018427387904) in
    (omega (tests, p, q), omega (tests, p, q))

-- the same place and a larger bound
pub at-place : (s : List ℤ) (i j n m : ℕ) → nat_abs (at s i) ≤ n → i ≡ j → n ≤ m → nat_abs (at s j) ≤ m
at-place s i j n m h e l = subst (λ (k : ℕ). nat_abs (at s k) ≤ m) e (omega arith)

-- raising one column leaves another as it was
module _ (s : List ℤ) (n g column other : ℕ) (x : ℤ) (low : 1 ≤ g) (high : g ≤ 5) (few : column < 8) (few' : other < 8) (apart : column ≡ other → ⊥) where
  abbrev figure : Figures
  figure = one_figure g other x

  abbrev raised : List ℤ
  raised = guarded_plus s (share_by n figure)

  untouched : (k : ℕ) → k < 80 → column_at k ≡ column → at raised k ≡ at s k
  unfolding one_figure
  untouched k h q =
      let none : figure (group_at k) (column_at k) ≡ pos 0 =
      rw (ne_eqb (column_at k) other (λ (e : column_at k ≡ other). omega tests), and-false (eqb (group_at k) g)) refl in
      guarded-at s (share_by n figure) k h ∙ ap (guarded_sum k (at s k)) (share-at n figure k h ∙ no-figure n figure k none) ∙ sum-none k (at s k)

  pub kept : LowColumn s g column → LowColumn raised g column
  kept l =
      let p : at raised (8 * (g - 1) + column) ≡ at s (8 * (g - 1) + column) = untouched (8 * (g - 1) + column) (omega arith) (omega tests) in
      let q : at raised (8 * (g - 1) + column + 40) ≡ at s (8 * (g - 1) + column + 40) = untouched (8 * (g - 1) + column + 40) (omega arith) (omega tests) in
      record { first = rw p l.first; weighted = rw q l.weighted }
