-- The algebra of sums, place by place: `plus` commutes and associates, `none` is neutral, and `minus` undoes it.
-- Assumes nothing.
use Prim.Native.Nat.{ℕ, ◌<◌}
use mathlib.Core.Path.{◌≡◌, sym, ap, ◌∙◌}
use mathlib.Core.List.{List}
use lib.ListN.{length, get_or}
use lib.IntN.{ℤ, pos, ◌+ℤ◌, ◌-ℤ◌, ◌*ℤ◌, +ℤ_assoc, +ℤ_comm, +ℤ_idl}
use Rattle.basics.proofs.Integers.{plus-minus}
use Rattle.basics.proofs.Tables.{table-length, table_at, table_same, list-table}
use Rattle.study.specs.Sums.{times_at, each, none, plus, minus, times}

-- sums with as many places as the code's list has
abbrev pub Shaped : List ℤ → Type 0
Shaped s = length s ≡ 80

-- what stands at a place of them
abbrev pub at : List ℤ → ℕ → ℤ
at s k = get_or s k (pos 0)

module _ (op : ℤ → ℤ → ℤ) (a b : List ℤ) where
  pub each_at : (k : ℕ) → k < 80 → at (each op a b) k ≡ op (at a k) (at b k)
  unfolding each
  each_at k h = table_at 80 _ k (pos 0) h

  pub each-shaped : Shaped (each op a b)
  unfolding each
  each-shaped = table-length 80 _

  -- sums made place by place
  pub each-is : (s : List ℤ) → Shaped s → ((k : ℕ) → k < 80 → at s k ≡ op (at a k) (at b k)) → s ≡ each op a b
  unfolding each
  each-is s e h = list-table 80 _ (pos 0) s e h

pub none-shaped : Shaped none
unfolding none
none-shaped = table-length 80 _

pub none-at : (k : ℕ) → k < 80 → at none k ≡ pos 0
unfolding none
none-at k h = table_at 80 _ k (pos 0) h

pub times-shaped : (n : ℕ) (a : List ℤ) → Shaped (times n a)
unfolding times
times-shaped n a = table-length 80 _

pub times-at : (n : ℕ) (a : List ℤ) (k : ℕ) → k < 80 → at (times n a) k ≡ pos (times_at n k) *ℤ at a k
unfolding times
times-at n a k h = table_at 80 _ k (pos 0) h

-- a law of the operations is a law of the sums
pub plus_comm : (a b : List ℤ) → plus a b ≡ plus b a
unfolding each
plus_comm a b = table_same 80 _ _ (λ k h. +ℤ_comm (at a k) (at b k))

pub plus_assoc : (a b c : List ℤ) → plus (plus a b) c ≡ plus a (plus b c)
plus_assoc a b c =
    each-is ◌+ℤ◌ a (plus b c) (plus (plus a b) c) (each-shaped ◌+ℤ◌ (plus a b) c)
    (λ k h.
    each_at ◌+ℤ◌ (plus a b) c k h ∙ ap (λ (n : ℤ). n +ℤ at c k) (each_at ◌+ℤ◌ a b k h) ∙ +ℤ_assoc (at a k) (at b k) (at c k)
    ∙ ap (λ (n : ℤ). at a k +ℤ n) (sym (each_at ◌+ℤ◌ b c k h)))

pub plus_none : (a : List ℤ) → Shaped a → plus none a ≡ a
plus_none a s =
    sym (each-is ◌+ℤ◌ none a a s (λ k h. sym (ap (λ (n : ℤ). n +ℤ at a k) (none-at k h) ∙ +ℤ_idl (at a k))))

-- what was added can be taken back
pub minus_plus : (a b : List ℤ) → Shaped a → minus (plus a b) b ≡ a
minus_plus a b s =
    sym (each-is ◌-ℤ◌ (plus a b) b a s (λ k h. sym (ap (λ (n : ℤ). n -ℤ at b k) (each_at ◌+ℤ◌ a b k h) ∙ plus-minus (at a k) (at b k))))
