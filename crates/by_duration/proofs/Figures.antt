-- Figures over the durations that a test picks, of which a group's and a row's are instances: tests that exclude one another add up, and tests that
-- agree on the durations of some records have the same figures.
-- Assumes nothing.
use Rattle.std.proofs.Common.{◌≡◌, ℕ, zero, suc, ◌+◌, ◌-◌, ◌*◌, ◌≤◌, Bool, true, false, eqb, List, [], ◌∷◌, ℤ, pos, ◌+ℤ◌, ◌*ℤ◌, sym, refl, ap, ◌∙◌, ap₂, add-mul, zero-mul}
use lib.IntN.{+ℤ_idl, +ℤ_idr, *ℤ_comm, zero-*ℤ}
use Rattle.basics.specs.Pick.{pick}
use Rattle.basics.proofs.Tests.{tests, by}
use Rattle.basics.proofs.Integers.{interchange, times-sum}
use Rattle.claim_months.specs.declared.Claim.{Claim}
use Rattle.claim_months.specs.Claim.{first_duration}
use Rattle.claim_months.specs.Exposure.{MonthRecord, thirtieths, meets, month_record, records_from, month_records, weighted, closings}
use Rattle.rates.specs.Rates.{group_of}
use Rattle.study.specs.Sums.{is_count}
use Rattle.study.specs.Study.{count_in_group, group_weight, exposure, closing_count, expected, figure}
use Rattle.study.specs.design.Private.{column_rate}
use Rattle.by_duration.specs.Rows.{row_of, in_row, row_weight, row_exposure, row_closings, row_expected, row_figure}

-- a weight where a test picks the duration, 0 at any other; a closing there under category x
abbrev pub picked : (ℕ → Bool) → (ℕ → ℤ) → ℕ → ℤ
picked t w d = pick (t d) (w d) (pos 0)

abbrev pub picked_closing : (ℕ → Bool) → ℕ → ℕ → ℕ → ℕ
picked_closing t x d y = pick (t d) 1 0 * pick (eqb y x) 1 0

unfoldable pub figure_in : (ℕ → Bool) → (ℕ → ℤ) → (ℕ → ℤ) → ℕ → List MonthRecord → ℤ
figure_in t recovery death column rs =
    pick (is_count column) (pos (closings (picked_closing t column) rs)) (weighted (picked t (column_rate recovery death column)) rs)

-- the columns without counts, one by one and by their rate
by-rate : (t : ℕ → Bool) (recovery death : ℕ → ℤ) (column : ℕ) (rs : List MonthRecord)
    → pick (eqb column 0) (weighted (picked t (λ d. pos 1)) rs) (pick (eqb column 6) (weighted (picked t recovery) rs) (weighted (picked t death) rs))
    ≡ weighted (picked t (column_rate recovery death column)) rs
unfolding column_rate
by-rate t recovery death column rs =
    by (eqb column 0)
    (λ u. pick u (weighted (picked t (λ d. pos 1)) rs) (pick (eqb column 6) (weighted (picked t recovery) rs) (weighted (picked t death) rs))
    ≡ weighted (picked t (pick u (λ d. pos 1) (pick (eqb column 6) recovery death))) rs) (λ _. refl)
    (λ _.
    by (eqb column 6)
    (λ u. pick u (weighted (picked t recovery) rs) (weighted (picked t death) rs) ≡ weighted (picked t (pick u recovery death)) rs) (λ _. refl) (λ _. refl))

-- the durations of a group, and of a row
abbrev pub of_group : ℕ → ℕ → Bool
of_group g d = eqb (group_of d) g

abbrev pub of_row : ℕ → ℕ → ℕ → Bool
of_row n r d = eqb (row_of n d) r

pub group-figure : (recovery death : ℕ → ℤ) (g column : ℕ) (rs : List MonthRecord) → figure recovery death g column rs ≡ figure_in (of_group g) recovery death column rs
unfolding figure exposure closing_count expected count_in_group group_weight figure_in
group-figure recovery death g column rs =
    ap (pick (is_count column) (pos (closings (picked_closing (of_group g) column) rs))) (by-rate (of_group g) recovery death column rs)

pub row-figure : (recovery death : ℕ → ℤ) (n r column : ℕ) (rs : List MonthRecord) → row_figure recovery death n r column rs ≡ figure_in (of_row n r) recovery death column rs
unfolding row_figure row_exposure row_closings row_expected in_row row_weight figure_in
row-figure recovery death n r column rs =
    ap (pick (is_count column) (pos (closings (picked_closing (of_row n r) column) rs))) (by-rate (of_row n r) recovery death column rs)

-- ---- sums of weights

sum-times : (x y z : ℤ) → (x +ℤ y) *ℤ z ≡ x *ℤ z +ℤ y *ℤ z
sum-times x y z = *ℤ_comm (x +ℤ y) z ∙ times-sum z x y ∙ ap₂ ◌+ℤ◌ (*ℤ_comm z x) (*ℤ_comm z y)

weighted-plus : (u v w : ℕ → ℤ) → ((d : ℕ) → u d ≡ v d +ℤ w d) → (rs : List MonthRecord) → weighted u rs ≡ weighted v rs +ℤ weighted w rs
unfolding weighted
weighted-plus u v w h [] = refl
weighted-plus u v w h (r ∷ rs) =
    let d = r.duration in
    let t = thirtieths r in
    ap₂ ◌+ℤ◌ (ap (λ (z : ℤ). z *ℤ t) (h d) ∙ sum-times (v d) (w d) t) (weighted-plus u v w h rs)
    ∙ interchange (v d *ℤ t) (w d *ℤ t) (weighted v rs) (weighted w rs)

pick-plus : (t : Bool) (a b x y : ℕ) → pick t 0 (a + b) + (x + y) ≡ (pick t 0 a + x) + (pick t 0 b + y)
pick-plus true a b x y = omega tests
pick-plus false a b x y = omega tests

closings-plus : (u v w : ℕ → ℕ → ℕ) → ((d y : ℕ) → u d y ≡ v d y + w d y) → (rs : List MonthRecord) → closings u rs ≡ closings v rs + closings w rs
unfolding closings
closings-plus u v w h [] = refl
closings-plus u v w h (r ∷ rs) =
    let d = r.duration in
    let y = r.category in
    ap₂ (λ (a b : ℕ). pick (eqb y 0) 0 a + b) (h d y) (closings-plus u v w h rs)
    ∙ pick-plus (eqb y 0) (v d y) (w d y) (closings v rs) (closings w rs)

-- no duration at all
weighted-none : (w : ℕ → ℤ) → ((d : ℕ) → w d ≡ pos 0) → (rs : List MonthRecord) → weighted w rs ≡ pos 0
unfolding weighted
weighted-none w h [] = refl
weighted-none w h (r ∷ rs) =
    ap₂ ◌+ℤ◌ (ap (λ (z : ℤ). z *ℤ thirtieths r) (h r.duration) ∙ zero-*ℤ (thirtieths r)) (weighted-none w h rs)

pick-none : (t : Bool) → ◌≡◌ {A = ℕ} (pick t 0 0) 0
pick-none true = refl
pick-none false = refl

closings-none : (w : ℕ → ℕ → ℕ) → ((d y : ℕ) → w d y ≡ 0) → (rs : List MonthRecord) → closings w rs ≡ 0
unfolding closings
closings-none w h [] = refl
closings-none w h (r ∷ rs) =
    ap₂ (λ (a b : ℕ). pick (eqb r.category 0) 0 a + b) (h r.duration r.category) (closings-none w h rs)
    ∙ ap (λ (a : ℕ). a + 0) (pick-none (eqb r.category 0))

-- a test that says yes where just one of two others does
abbrev pub Either : Bool → Bool → Bool → Type 0
Either u s t = pick u 1 0 ≡ pick s 1 0 + pick t 1 0

either-weight : (u s t : Bool) (x : ℤ) → Either u s t → pick u x (pos 0) ≡ pick s x (pos 0) +ℤ pick t x (pos 0)
either-weight true true true x h = absurd (omega tests)
either-weight true true false x h = sym (+ℤ_idr x)
either-weight true false true x h = sym (+ℤ_idl x)
either-weight true false false x h = absurd (omega tests)
either-weight false true true x h = absurd (omega tests)
either-weight false true false x h = absurd (omega tests)
either-weight false false true x h = absurd (omega tests)
either-weight false false false x h = refl

module _ (recovery death : ℕ → ℤ) (column : ℕ) (rs : List MonthRecord) where
  pub figure-plus : (u s t : ℕ → Bool) → ((d : ℕ) → Either (u d) (s d) (t d))
      → figure_in u recovery death column rs ≡ figure_in s recovery death column rs +ℤ figure_in t recovery death column rs
  unfolding figure_in
  figure-plus u s t h =
      let rate = column_rate recovery death column in
      by (is_count column)
      (λ b. pick b (pos (closings (picked_closing u column) rs)) (weighted (picked u rate) rs)
      ≡ pick b (pos (closings (picked_closing s column) rs)) (weighted (picked s rate) rs) +ℤ pick b (pos (closings (picked_closing t column) rs)) (weighted (picked t rate) rs))
      (λ _.
      ap pos
      (closings-plus (picked_closing u column) (picked_closing s column) (picked_closing t column)
      (λ d y. ap (λ (k : ℕ). k * pick (eqb y column) 1 0) (h d) ∙ add-mul (pick (s d) 1 0) (pick (t d) 1 0) (pick (eqb y column) 1 0)) rs))
      (λ _. weighted-plus (picked u rate) (picked s rate) (picked t rate) (λ d. either-weight (u d) (s d) (t d) (rate d) (h d)) rs)

  pub figure-none : (t : ℕ → Bool) → ((d : ℕ) → t d ≡ false) → figure_in t recovery death column rs ≡ pos 0
  unfolding figure_in
  figure-none t h =
      by (is_count column) (λ b. pick b (pos (closings (picked_closing t column) rs)) (weighted (picked t (column_rate recovery death column)) rs) ≡ pos 0)
      (λ _. ap pos (closings-none (picked_closing t column) (λ d y. ap (λ (b : Bool). pick b 1 0 * pick (eqb y column) 1 0) (h d) ∙ zero-mul (pick (eqb y column) 1 0)) rs))
      (λ _. weighted-none (picked t (column_rate recovery death column)) (λ d. ap (λ (b : Bool). pick b (column_rate recovery death column d) (pos 0)) (h d)) rs)

-- ---- tests that agree on the durations of some records

-- no duration is below 1
abbrev pub FromOne : List MonthRecord → Type 0
FromOne [] = Unit {0}
FromOne (r ∷ rs) = (1 ≤ r.duration) × FromOne rs

from-one-from : (c : Claim) (b e n k : ℕ) → FromOne (records_from c b e k n)
unfolding records_from month_record first_duration
from-one-from c b e zero k = tt
from-one-from c b e (suc n) k =
    by (meets c b e k) (λ t. FromOne (pick t (month_record c b e k ∷ records_from c b e (suc k) n) (records_from c b e (suc k) n)))
    (λ _. (omega tests, from-one-from c b e n (suc k))) (λ _. from-one-from c b e n (suc k))

pub from_one : (c : Claim) (b e : ℕ) → FromOne (month_records c b e)
unfolding month_records
from_one c b e = from-one-from c b e 1800 1

weighted-same : (v w : ℕ → ℤ) → ((d : ℕ) → 1 ≤ d → v d ≡ w d) → (rs : List MonthRecord) → FromOne rs → weighted v rs ≡ weighted w rs
unfolding weighted
weighted-same v w h [] a = refl
weighted-same v w h (r ∷ rs) a = ap₂ ◌+ℤ◌ (ap (λ (z : ℤ). z *ℤ thirtieths r) (h r.duration a.0)) (weighted-same v w h rs a.1)

closings-same : (v w : ℕ → ℕ → ℕ) → ((d y : ℕ) → 1 ≤ d → v d y ≡ w d y) → (rs : List MonthRecord) → FromOne rs → closings v rs ≡ closings w rs
unfolding closings
closings-same v w h [] a = refl
closings-same v w h (r ∷ rs) a =
    ap₂ (λ (x y : ℕ). pick (eqb r.category 0) 0 x + y) (h r.duration r.category a.0) (closings-same v w h rs a.1)

pub figure-same : (recovery death : ℕ → ℤ) (column : ℕ) (rs : List MonthRecord) → FromOne rs → (s t : ℕ → Bool) → ((d : ℕ) → 1 ≤ d → s d ≡ t d)
    → figure_in s recovery death column rs ≡ figure_in t recovery death column rs
unfolding figure_in
figure-same recovery death column rs a s t h =
    ap₂ (λ (x : ℕ) (y : ℤ). pick (is_count column) (pos x) y)
    (closings-same (picked_closing s column) (picked_closing t column) (λ d y l. ap (λ (b : Bool). pick b 1 0 * pick (eqb y column) 1 0) (h d l)) rs a)
    (weighted-same (picked s (column_rate recovery death column)) (picked t (column_rate recovery death column))
    (λ d l. ap (λ (b : Bool). pick b (column_rate recovery death column d) (pos 0)) (h d l)) rs a)
