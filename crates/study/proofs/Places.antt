-- Which place of the sums a group and a column have, which columns are counts, and in which set a place is.
-- Assumes nothing.
use Prim.Native.Nat.{ℕ, ◌+◌, ◌-◌, ◌*◌, ◌≤◌, ◌<◌}
use mathlib.Core.Path.{◌≡◌, refl}
use native.Mathlib.Nat.{zero-mul, mul-le-mul}
use mathlib.Core.Bool.{Bool, true, false}
use lib.Dec.{ltb, eqb}
use borrow.Author.Tests.{le-leb, lt-ltb, le-ltb, eq-eqb, ne_eqb}
use Rattle.basics.specs.Pick.{pick}
use Rattle.basics.proofs.Tests.{tests, by}
use Rattle.rates.proofs.Laws.{group-low, group-high}
use Rattle.study.specs.Sums.{group_at, column_at, is_count, times_at}

-- of the places of the first set one has both
pub one_place : (g x k : ℕ) → 1 ≤ g → x < 8 → k < 40 → pick (eqb g (group_at k)) 1 0 * pick (eqb x (column_at k)) 1 0 ≡ pick (eqb k (8 * (g - 1) + x)) 1 0
one_place g x k hg hx hk =
    by (eqb g (group_at k)) (λ y. pick y 1 0 * pick (eqb x (column_at k)) 1 0 ≡ pick (eqb k (8 * (g - 1) + x)) 1 0)
    (λ p.
    by (eqb x (column_at k)) (λ y. 1 * pick y 1 0 ≡ pick (eqb k (8 * (g - 1) + x)) 1 0)
    (λ q. rw (eq-eqb k (8 * (g - 1) + x) (omega tests)))
    (λ q. rw (ne_eqb k (8 * (g - 1) + x) (λ e. omega tests))))
    (λ p. rw (ne_eqb k (8 * (g - 1) + x) (λ e. omega tests)) (zero-mul (pick (eqb x (column_at k)) 1 0)))

-- the places of a group are all in one set
pub group-times : (n g x : ℕ) → x < 8 → times_at n (8 * g) ≡ times_at n (8 * g + x)
unfolding times_at
group-times n g x h =
    by (ltb (8 * g) 40) (λ t. pick t 1 n ≡ pick (ltb (8 * g + x) 40) 1 n)
    (λ q. rw (lt-ltb (8 * g + x) 40 (omega tests)) refl) (λ q. rw (le-ltb (8 * g + x) 40 (omega tests)) refl)

pub ruleset group_bounds = (group-times, mul-le-mul)

-- the columns 1 to 5 have counts
pub a-count : (column : ℕ) → 1 ≤ column → column ≤ 5 → is_count column ≡ true
unfolding is_count
a-count column low high = rw (le-leb 1 column low, le-leb column 5 high) refl

-- the kinds of columns: counts, thirtieths, expected recoveries, expected deaths
pub by_column : (column : ℕ) (P : Bool → Bool → Bool → Type 0) → ((t u : Bool) → P true t u) → ((u : Bool) → P false true u) → P false false true
    → P false false false → P (is_count column) (eqb column 0) (eqb column 6)
by_column column P a b c d =
    by (is_count column) (λ s. P s (eqb column 0) (eqb column 6)) (λ _. a (eqb column 0) (eqb column 6))
    (λ _. by (eqb column 0) (λ t. P false t (eqb column 6)) (λ _. b (eqb column 6)) (λ _. by (eqb column 6) (P false false) (λ _. c) (λ _. d)))

-- a group is one of five
pub ruleset group_range = (group-low, group-high)
