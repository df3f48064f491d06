-- What the private functions of this layer answer: sums within bounds, and a span's share, band by band.
use Rattle.std.specs.Prelude.{ℕ, ◌+◌, ◌-◌, ◌*◌, ◌/◌, ◌≤◌, Bool, true, ◌&&◌, List, get_or, leb, ltb, eqb, ℤ, pos, nat_abs, ◌+ℤ◌, ◌*ℤ◌}
use Rattle.std.specs.Int.{w64, cast_unsigned}
use Rattle.std.specs.Int.Bits.{bit_or}
use Rattle.basics.specs.Pick.{pick}
use Rattle.basics.specs.Limits.{most_claims, most_expected, most_benefit}
use Rattle.basics.specs.Checks.{check, ◌then◌, refuse_full, refuse_withdrawal}
use Rattle.basics.specs.Tables.{table, every_place, all_within}
use Rattle.claim_months.specs.declared.Claim.{Claim}
use Rattle.claim_months.specs.declared.Span.{Span}
use Rattle.claim_months.specs.declared.Window.{Window}
use Rattle.claim_months.specs.Claim.{claim_check}
use Rattle.claim_months.specs.Windows.{window_check}
use Rattle.claim_months.specs.Span.{span_weighted, span_closing}
use Rattle.rates.specs.declared.Kind.{Kind}
use Rattle.rates.specs.design.Prepared.{table_check_of, recovery_of, death_of}
use Rattle.study.specs.declared.bounds.Bounds.{Bounds}
use Rattle.study.specs.Sums.{group_at, column_at, is_count, times_at, column_bound, in_bounds, within}
use Rattle.study.specs.Study.{count_in_group, group_weight}
use Rattle.study.specs.design.LentAdding.{guarded_plus}
use Rattle.study.specs.Withdrawing.{covers}

-- bounds by column
unfoldable pub bound_in : Bounds → ℕ → ℕ
bound_in b column = pick (is_count column) b.count (pick (eqb column 0) b.thirtieths b.expected)

-- the eight numbers of a group from a place on within n times some bounds
unfoldable pub group_in_bounds : ℕ → Bounds → List ℤ → ℕ → Bool
group_in_bounds n b s at = every_place 8 (λ x. in_bounds (n * bound_in b x) x (get_or s (at + x) (pos 0)))

-- its closing counts among them
unfoldable pub counts_in_bounds : ℕ → List ℤ → ℕ → Bool
counts_in_bounds n s at = every_place 8 (λ x. pick (is_count x) (in_bounds n x (get_or s (at + x) (pos 0))) true)

-- the sums of two lists at the eight places of a group, from a place on, each within its bound of refusal 9
unfoldable pub group_together : List ℤ → List ℤ → ℕ → Bool
group_together a b at =
    every_place 8 (λ x. leb (nat_abs (get_or a (at + x) (pos 0) +ℤ get_or b (at + x) (pos 0))) (times_at most_benefit (at + x) * column_bound (column_at (at + x))))

-- what a month's thirtieths are multiplied by in a column: by one, by its recovery rate, by its death rate
unfoldable pub column_rate : (ℕ → ℤ) → (ℕ → ℤ) → ℕ → ℕ → ℤ
column_rate recovery death column = pick (eqb column 0) (λ d. pos 1) (pick (eqb column 6) recovery death)

-- the figure of a column of group g over the first n months of a span, and over its closing: its closing month counts one, under its category
unfoldable pub months_figure : (ℕ → ℤ) → (ℕ → ℤ) → Span → ℕ → ℕ → ℕ → ℤ
months_figure recovery death sp n g column =
    pick (is_count column) (pos 0) (span_weighted (group_weight g (column_rate recovery death column)) sp n)

unfoldable pub closing_figure : Span → ℕ → ℕ → ℤ
closing_figure sp g column = pick (is_count column) (pos (span_closing (λ d y. count_in_group g d * pick (eqb y column) 1 0) sp)) (pos 0)

-- a share of a claim with a weight, by the figures of groups and columns
unfoldable pub share_by : ℕ → (ℕ → ℕ → ℤ) → List ℤ
share_by n figure = table 80 (λ k. pos (times_at n k) *ℤ figure (group_at k) (column_at k))

-- the share of a claim whose month records have a span
unfoldable pub span_figure : (ℕ → ℤ) → (ℕ → ℤ) → Span → ℕ → ℕ → ℤ
span_figure recovery death sp g column =
    pick (is_count column) (closing_figure sp g column) (months_figure recovery death sp sp.months g column)

unfoldable pub span_share : Kind → List ℕ → ℕ → ℕ → Span → List ℤ
span_share kind rates cell n sp = share_by n (span_figure (recovery_of kind rates cell) (death_of kind rates cell) sp)

-- one figure of one group and column, and no other
unfoldable pub one_figure : ℕ → ℕ → ℤ → ℕ → ℕ → ℤ
one_figure g₀ column₀ x g column = pick (eqb g g₀ && eqb column column₀) x (pos 0)

-- amounts added to the three columns of a group that are no counts
unfoldable pub three_raised : ℕ → ℤ → ℤ → ℤ → ℕ → List ℤ → List ℤ
three_raised g x y z n s =
    guarded_plus (guarded_plus (guarded_plus s (share_by n (one_figure g 0 x))) (share_by n (one_figure g 6 y))) (share_by n (one_figure g 7 z))

-- a column's sum is within every bound in both sets
pub record LowColumn (s : List ℤ) (g column : ℕ) : Type 0 where
  pub first : nat_abs (get_or s (8 * (g - 1) + column) (pos 0)) ≤ most_expected
  pub weighted : nat_abs (get_or s (8 * (g - 1) + column + 40) (pos 0)) ≤ most_benefit * most_expected

-- the three columns of a group that are no counts are
pub record LowGroup (s : List ℤ) (g : ℕ) : Type 0 where
  pub thirtieths : LowColumn s g 0
  pub recoveries : LowColumn s g 6
  pub deaths : LowColumn s g 7

-- the bits of three sums, together
unfoldable pub three_bits : List ℤ → ℕ → ℕ → ℕ → ℕ
three_bits s i j k =
    bit_or (bit_or (cast_unsigned w64 (get_or s i (pos 0))) (cast_unsigned w64 (get_or s j (pos 0)))) (cast_unsigned w64 (get_or s k (pos 0)))

-- whether a group's three sums that are no counts are below 2⁵⁴ and not below 0, and those of the weighted set below 2⁶²
unfoldable pub six_low : List ℤ → ℕ → Bool
six_low s g =
    let at = 8 * (g - 1) in
    eqb (bit_or (three_bits s at (at + 6) (at + 7) / 18014398509481984) (three_bits s (at + 40) (at + 46) (at + 47) / 4611686018427387904)) 0

-- adding a sound claim's span to sums, told whether they are within their bounds: the number of the first of the checks 6 to 9 that fails, or 0,
-- and the sums afterwards
unfoldable pub span_number : ℕ → Bool → Kind → List ℕ → ℕ → ℕ
span_number taken room kind rates cell = table_check_of kind rates cell then check (ltb taken most_claims && room) refuse_full

unfoldable pub span_sums : ℕ → Bool → List ℤ → Kind → List ℕ → ℕ → Span → ℕ → List ℤ
span_sums taken room s kind rates cell sp n =
    pick (eqb (span_number taken room kind rates cell) 0) (guarded_plus s (span_share kind rates cell n sp)) s

-- the number of the first of the checks 1 to 8 and 16 that a claim fails in a window with a table, or 0
unfoldable pub share_number : Kind → Claim → Window → List ℕ → ℕ
share_number kind c w table = window_check w.first.0 w.last.0 then claim_check c then table_check_of kind table c.cell

-- a share's numbers are small beside the bounds of 64 bits
unfoldable pub small_share : List ℤ → Bool
small_share = all_within 1000000000000000000

-- the checks 9 and 18 of a withdrawal, of the claims taken, the sums and the claim's share
unfoldable pub last_checks : ℕ → List ℤ → List ℤ → ℕ
last_checks taken s share =
    check (leb taken most_claims && within s) refuse_full then check (ltb 0 taken && covers s share) refuse_withdrawal
