-- The table's rule: one test that antt computes over the whole table, that each entry is followed by the one as many days later as its month has, and
-- the lemma that turns it into the rule at each entry.
-- Assumes nothing.
use Prim.Native.Nat.{ℕ, zero, suc, ◌+◌, ◌-◌, ◌≤◌, ◌<◌}
use mathlib.Core.Path.{◌≡◌, refl, ap, ◌∙◌}
use mathlib.Core.Bool.{Bool, true}
use native.Mathlib.Omega.{arith}
use borrow.Author.Tests.{eqb-true}
use lib.Dec.{eqb}
use lib.ListN.{length}
use Rattle.basics.proofs.Tables.{all_steps, step-at}
use Rattle.month_starts.specs.MonthStarts.{month_start_days}
use Rattle.calendar.specs.Calendar.{leap_year, month_length, index_length, days_before, month_start, first_month, end_month}
use Rattle.calendar.specs.MonthTable.{entry}

pub table-count : length month_start_days ≡ 1801
unfolding month_start_days
table-count = refl

pub table-first : entry 0 ≡ 0
unfolding month_start_days
table-first = refl

lasts : ℕ → ℕ → ℕ → Bool
lasts k x y = eqb y (x + index_length (first_month + k))

all-last : all_steps lasts 0 month_start_days ≡ true
unfolding lasts month_start_days index_length month_length leap_year
all-last = refl

pub table-lengths : (k : ℕ) → k < 1800 → entry (suc k) ≡ entry k + index_length (first_month + k)
unfolding lasts
table-lengths k h = eqb-true _ _ (step-at lasts 0 month_start_days all-last k (omega (arith, table-count)))

table-days : (k : ℕ) → k ≤ 1800 → entry k ≡ days_before k
unfolding days_before
table-days zero h = table-first
table-days (suc k) h =
    table-lengths k h ∙ ap (λ (d : ℕ). d + index_length (first_month + k)) (table-days k (omega arith))

-- entry k is the start of month i, the k-th after January 1950
pub table-start : (i k : ℕ) → first_month + k ≡ i → i ≤ end_month → entry k ≡ month_start i
unfolding month_start
table-start i k e h = let p : k ≡ i - first_month = omega arith in table-days k (omega arith) ∙ ap days_before p

pub table-rule : (k : ℕ) → k ≤ 1800 → entry k ≡ month_start (first_month + k)
table-rule k h = table-start (first_month + k) k refl (omega arith)
