-- `study::sums::raise_both` meets its contract: of each set one place has the group and the column, and is raised; the weighted one by the weight times
-- the amount, read back from its bits.
-- Assumes nothing.
use Prim.Native.Nat.{ℕ, ◌+◌, ◌-◌, ◌*◌, ◌≤◌, ◌<◌}
use mathlib.Core.Path.{◌≡◌, refl, sym, ap, ap₂, ◌∙◌}
use mathlib.Core.Bool.{◌&&◌}
use mathlib.Core.List.{List}
use native.Mathlib.Omega.{arith}
use native.Mathlib.Nat.{mul-le-mul}
use borrow.Author.Tests.{lt-ltb, le-ltb, eq-eqb, ne_eqb}
use lib.Dec.{ltb, eqb}
use lib.ListN.{length, set, length-set}
use lib.Seq.{get_or-set_same, get_or-set_other}
use lib.IntN.{ℤ, pos, nat_abs, ◌*ℤ◌, *ℤ_comm, *ℤ-one, one}
use mir.Syntax.{w64}
use mir.Val.{to_z, of_z}
use Rattle.basics.specs.Pick.{pick}
use Rattle.basics.proofs.Tests.{tests, by}
use Rattle.basics.proofs.Integers.{size-product}
use Rattle.basics.proofs.Signed.{read_back, result-is}
use Rattle.study.specs.Sums.{group_at, column_at, times_at}
use Rattle.study.specs.design.LentAdding.{guarded_sum, guarded_plus}
use Rattle.study.specs.design.Private.{share_by, one_figure}
use Rattle.study.proofs.Algebra.{Shaped, at}
use Rattle.study.proofs.Raised.{Figures, figure_at, guarded-is, share-at, no-figure, sum-none}
use Rattle.study.proofs.sums.raise_both.Goals as goal

-- once is all of it
one-times : (x : ℤ) → pos 1 *ℤ x ≡ x
unfolding one
one-times x = *ℤ_comm (pos 1) x ∙ *ℤ-one x

module _ (s : List ℤ) (len : Shaped s) (n g column : ℕ) (amount : ℤ) (low : 1 ≤ g) (high : g ≤ 5) (few : column < 8) where
  abbrev place : ℕ
  place = 8 * (g - 1) + column

  abbrev figure : Figures
  figure = one_figure g column amount

  -- what is added at a place with the group and the column, and at any other
  figure-here : (k : ℕ) → group_at k ≡ g → column_at k ≡ column → figure (group_at k) (column_at k) ≡ amount
  unfolding one_figure
  figure-here k p q = rw (eq-eqb (group_at k) g p, eq-eqb (column_at k) column q) refl

  figure-first : figure_at n figure place ≡ amount
  unfolding times_at
  figure-first =
      rw (lt-ltb place 40 (omega tests)) (ap (λ (z : ℤ). pos 1 *ℤ z) (figure-here place (omega tests) (omega tests)) ∙ one-times amount)

  figure-weighted : figure_at n figure (place + 40) ≡ pos n *ℤ amount
  unfolding times_at
  figure-weighted =
      rw (le-ltb (place + 40) 40 (omega tests)) (ap (λ (z : ℤ). pos n *ℤ z) (figure-here (place + 40) (omega tests) (omega tests)))

  figure-else : (k : ℕ) → k < 80 → (k ≡ place → ⊥) → (k ≡ place + 40 → ⊥) → figure_at n figure k ≡ pos 0
  unfolding one_figure
  figure-else k h p q =
      no-figure n figure k
      (by (eqb (group_at k) g) (λ t. pick (t && eqb (column_at k) column) amount (pos 0) ≡ pos 0)
      (λ u. rw (ne_eqb (column_at k) column (λ (v : column_at k ≡ column). by (ltb k 40) (λ _. ⊥) (λ t. p (omega tests)) (λ t. q (omega tests)))) refl)
      (λ u. refl))

  abbrev once : List ℤ
  once = set s place (guarded_sum place (at s place) amount)

  abbrev twice : List ℤ
  twice = set once (place + 40) (guarded_sum (place + 40) (at once (place + 40)) (pos n *ℤ amount))

  once-length : length once ≡ 80
  once-length = length-set s place (guarded_sum place (at s place) amount) ∙ len

  at-weighted : at twice (place + 40) ≡ guarded_sum (place + 40) (at s (place + 40)) (figure_at n figure (place + 40))
  at-weighted =
      get_or-set_same once (place + 40) _ (pos 0) (omega (tests, once-length))
      ∙ ap₂ (guarded_sum (place + 40)) (get_or-set_other s place (place + 40) _ (pos 0) (λ (e : place + 40 ≡ place). omega tests)) (sym figure-weighted)

  at_first : at twice place ≡ guarded_sum place (at s place) (figure_at n figure place)
  at_first =
      get_or-set_other once (place + 40) place _ (pos 0) (λ (e : place ≡ place + 40). omega tests)
      ∙ get_or-set_same s place _ (pos 0) (omega (tests, len)) ∙ ap (guarded_sum place (at s place)) (sym figure-first)

  at-else : (k : ℕ) → k < 80 → (k ≡ place → ⊥) → (k ≡ place + 40 → ⊥) → at twice k ≡ guarded_sum k (at s k) (figure_at n figure k)
  at-else k h p q =
      get_or-set_other once (place + 40) k _ (pos 0) q ∙ get_or-set_other s place k _ (pos 0) p
      ∙ sym (ap (guarded_sum k (at s k)) (figure-else k h p q) ∙ sum-none k (at s k))

  both-raised : twice ≡ guarded_plus s (share_by n figure)
  both-raised =
      guarded-is s (share_by n figure) twice (length-set once (place + 40) _ ∙ once-length)
      (λ k h.
      by (eqb k place) (λ _. at twice k ≡ guarded_sum k (at s k) (figure_at n figure k))
      (λ u. let e : k ≡ place = omega tests in rw e at_first)
      (λ u.
      by (eqb k (place + 40)) (λ _. at twice k ≡ guarded_sum k (at s k) (figure_at n figure k))
      (λ v. let e : k ≡ place + 40 = omega tests in rw e at-weighted)
      (λ v. at-else k h (λ (e : k ≡ place). omega tests) (λ (e : k ≡ place + 40). omega tests)))
      ∙ ap (guarded_sum k (at s k)) (sym (share-at n figure k h)))

-- an amount and its weighted one, read back from their bits
weighted-size : (n : ℕ) (x : ℤ) → n ≤ 200 → nat_abs x ≤ 5000000000000000 → nat_abs (pos n *ℤ x) ≤ 1000000000000000000
weighted-size n x h g =
    let p : n * nat_abs x ≤ 200 * 5000000000000000 = mul-le-mul h g in
    omega (arith, size-product (pos n) x)

weighted-read : (n : ℕ) (x : ℤ) → n ≤ 200 → nat_abs x ≤ 5000000000000000 → to_z w64 (of_z w64 (to_z w64 n *ℤ to_z w64 (of_z w64 x))) ≡ pos n *ℤ x
weighted-read n x h g = result-is ◌*ℤ◌ (pos n) x (omega arith) (omega arith) (omega (arith, weighted-size n x h g))

weighted-bound : (n : ℕ) (x : ℤ) → n ≤ 200 → nat_abs x ≤ 5000000000000000
    → nat_abs (to_z w64 (of_z w64 (to_z w64 n *ℤ to_z w64 (of_z w64 x)))) ≤ 1000000000000000000
weighted-bound n x h g = rw (weighted-read n x h g) (omega (arith, weighted-size n x h g))

pub raise-requires-2-clause-amount_bound : goal.raise-requires-2-clause-amount_bound
raise-requires-2-clause-amount_bound c = weighted-bound c.args.weight c.args.amount (omega arith) (omega arith)

pub returns : goal.returns
returns c =
    let a = c.args in
    let l = a.sums.now in
    let k = 8 * (a.group - 1) + a.column in
    let e : c.raise.new.sums ≡ set l k (guarded_sum k (at l k) a.amount) = rw (read_back a.amount (omega arith)) at c.raise.ensures in
    c.raise-2.ensures
    ∙ ap (λ (x : ℤ). set c.raise.new.sums (k + 40) (guarded_sum (k + 40) (at c.raise.new.sums (k + 40)) x)) (weighted-read a.weight a.amount (omega arith) (omega arith))
    ∙ ap (λ (z : List ℤ). set z (k + 40) (guarded_sum (k + 40) (at z (k + 40)) (pos a.weight *ℤ a.amount))) e
    ∙ both-raised l c.told-sums a.weight a.group a.column a.amount (omega arith) (omega arith) (omega arith)
