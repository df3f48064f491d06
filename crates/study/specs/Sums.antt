-- Document 01, Study: the sums of a set of claims, one list of 80 integers, and their algebra. One list holds a study's sums or one claim's share of them.
use Rattle.std.specs.Prelude.{ℕ, ◌+◌, ◌-◌, ◌*◌, ◌/◌, ◌%◌, ◌<◌, ◌≡◌, Bool, true, ◌&&◌, List, get_or, leb, ltb, eqb, ℤ, pos, nat_abs, ◌+ℤ◌, ◌-ℤ◌, ◌*ℤ◌}
use Rattle.std.specs.Int.Signed.{non_neg}
use Rattle.basics.specs.Pick.{pick}
use Rattle.basics.specs.Limits.{most_claims, most_thirtieths, most_expected, most_benefit}
use Rattle.basics.specs.Tables.{table, every_place}

-- A place of the list has a group, 1 to 5, and a column, 0 to 7: thirtieths, the closing counts under the categories 1 to 5, expected recoveries,
-- expected deaths. The places from 40 on are the weighted set (document 02, No. 7), in the same order
abbrev pub group_at : ℕ → ℕ
group_at k = k % 40 / 8 + 1

abbrev pub column_at : ℕ → ℕ
column_at k = k % 8

-- a column of closing counts: its number is the category
unfoldable pub is_count : ℕ → Bool
is_count column = leb 1 column && leb column 5

-- a place with a closing count, of one group and category, in the first set
abbrev pub ClosingPlace : ℕ → Type 0
ClosingPlace k = (k < 40) × (is_count (column_at k) ≡ true)

-- once in the first set, n times in the weighted one
unfoldable pub times_at : ℕ → ℕ → ℕ
times_at n k = pick (ltb k 40) 1 n

-- the sum of column c of group g in the first set; 0 for any other group or column
unfoldable pub sum_at : List ℤ → ℕ → ℕ → ℤ
sum_at s g column = pick (leb 1 g && leb g 5 && ltb column 8) (get_or s (8 * (g - 1) + column) (pos 0)) (pos 0)

-- two lists of sums place by place
unfoldable pub each : (ℤ → ℤ → ℤ) → List ℤ → List ℤ → List ℤ
each op a b = table 80 (λ k. op (get_or a k (pos 0)) (get_or b k (pos 0)))

-- no claims
unfoldable pub none : List ℤ
none = table 80 (λ k. pos 0)

-- the sums of two sets of claims together
abbrev pub plus : List ℤ → List ℤ → List ℤ
plus = each ◌+ℤ◌

-- those of a set without some of its claims
abbrev pub minus : List ℤ → List ℤ → List ℤ
minus = each ◌-ℤ◌

-- the sums once in the first set, and n times in the weighted one
unfoldable pub times : ℕ → List ℤ → List ℤ
times n a = table 80 (λ k. pos (times_at n k) *ℤ get_or a k (pos 0))

-- the bounds of refusal 9 by column: ±2.7 × 10¹⁰ thirtieths, ±2.7 × 10¹⁶ expected, a count of 500,000
unfoldable pub column_bound : ℕ → ℕ
column_bound column = pick (is_count column) most_claims (pick (eqb column 0) most_thirtieths most_expected)

-- a number from −n to n, and in a column of counts not below 0
unfoldable pub in_bounds : ℕ → ℕ → ℤ → Bool
in_bounds n column x = leb (nat_abs x) n && pick (is_count column) (non_neg x) true

-- every number within bounds by column, and within 200 times those in the weighted set
unfoldable pub all_in_bounds : (ℕ → ℕ) → List ℤ → Bool
all_in_bounds bound s = every_place 80 (λ k. in_bounds (times_at most_benefit k * bound (column_at k)) (column_at k) (get_or s k (pos 0)))

abbrev pub within : List ℤ → Bool
within = all_in_bounds column_bound
