-- Check 9 doesn't fire under 500,000 accepted claims: each claim adds at most 54,000 thirtieths, 54,000,000,000 expected and one closing, and at most
-- 200 times that to the weighted set.
-- Assumes nothing.
use Prim.Native.Nat.{ℕ, ◌+◌, ◌*◌, ◌≤◌, ◌<◌}
use mathlib.Core.Path.{◌≡◌, refl, ap, ◌∙◌}
use mathlib.Core.Bool.{true, false≢true}
use mathlib.Core.List.{List, [], ◌∷◌}
use lib.ListN.{length}
use lib.Dec.{ltb, eqb}
use lib.IntN.{ℤ, pos, negsuc, nat_abs, ◌+ℤ◌, ◌*ℤ◌}
use lib.Signed.{non_neg}
use native.Mathlib.Nat.{mul-add, mul-le-mul, mul-le-mul_left}
use borrow.Author.Tests.{lt-ltb}
use Rattle.basics.specs.Pick.{pick}
use Rattle.basics.specs.Limits.{most_benefit}
use Rattle.basics.specs.Tables.{all_at_most}
use Rattle.basics.proofs.Tests.{tests, by}
use Rattle.basics.proofs.Checks.{then-passed}
use Rattle.basics.proofs.Integers.{size-sum, size-product}
use Rattle.basics.proofs.Tables.{table_at}
use Rattle.claim_months.specs.declared.Claim.{Claim}
use Rattle.claim_months.specs.declared.Window.{Window}
use Rattle.claim_months.specs.Claim.{claim_check, category, weight}
use Rattle.claim_months.specs.Exposure.{MonthRecord, month_records, closed_in}
use Rattle.claim_months.proofs.Sound.{Sound, sound, weight-high}
use Rattle.claim_months.proofs.Ranges.{weighted-size}
use Rattle.claim_months.proofs.Closing.{closings-value, closing_duration}
use Rattle.rates.specs.Rates.{group_of, rate_check}
use Rattle.rates.specs.declared.Kind.{Kind}
use Rattle.rates.proofs.Laws.{recovery-bound, death-bound}
use Rattle.rates.proofs.SameTable.{recovery-size, death-size}
use Rattle.study.specs.Sums.{group_at, column_at, is_count, times_at, none, plus, column_bound, within}
use Rattle.study.specs.Study.{count_in_group, group_weight, exposure, closing_count, expected, figure, record_sums, share_of, sum_over, study_of, has_room, own_refusal}
use Rattle.study.specs.design.PreparedAdding.{share_with}
use Rattle.study.proofs.Algebra.{Shaped, at, each_at, none-at, times-shaped, times-at}
use Rattle.study.proofs.Places.{by_column}
use Rattle.study.proofs.InBounds.{place_bound, in_is, all-is}
use Rattle.study.proofs.SumOver.{All}

-- a claim that is accepted
abbrev pub Accepted : List ℕ → Claim → Type 0
Accepted rates c = own_refusal rates c ≡ 0

pub accepted-checks : (rates : List ℕ) (c : Claim) → Accepted rates c → claim_check c ≡ 0
unfolding own_refusal
accepted-checks rates c h = (then-passed (claim_check c) (rate_check rates c.cell) h).0

pub accepted-sound : (rates : List ℕ) (c : Claim) → Accepted rates c → Sound c
accepted-sound rates c h = sound c (accepted-checks rates c h)

pub accepted-rates : (rates : List ℕ) (c : Claim) → Accepted rates c → rate_check rates c.cell ≡ 0
unfolding own_refusal
accepted-rates rates c h = (then-passed (claim_check c) (rate_check rates c.cell) h).1

pub group-one : (g d : ℕ) → count_in_group g d ≤ 1
unfolding count_in_group
group-one g d = by (eqb (group_of d) g) (λ t. pick t 1 0 ≤ 1) (λ q. omega tests) (λ q. omega tests)

-- a weight in one group is no larger than the weight
group-size : (g m : ℕ) (w : ℕ → ℤ) → ((d : ℕ) → nat_abs (w d) ≤ m) → (d : ℕ) → nat_abs (group_weight g w d) ≤ m
unfolding group_weight
group-size g m w h d = by (eqb (group_of d) g) (λ t. nat_abs (pick t (w d) (pos 0)) ≤ m) (λ q. h d) (λ q. omega tests)

-- what one sound claim adds, with rates up to m
exposure-size : (c : Claim) (b e g : ℕ) → nat_abs (exposure g (month_records c b e)) ≤ 54000
unfolding exposure
exposure-size c b e g = weighted-size (group_weight g (λ d. pos 1)) 1 (group-size g 1 (λ d. pos 1) (λ d. omega tests)) c b e

expected-size : (m : ℕ) (rate : ℕ → ℤ) → ((d : ℕ) → nat_abs (rate d) ≤ m) → (c : Claim) (b e g : ℕ) → nat_abs (expected rate g (month_records c b e)) ≤ m * 30 * 1800
unfolding expected
expected-size m rate h c b e g = weighted-size (group_weight g rate) m (group-size g m rate h) c b e

closing-one : (c : Claim) → Sound c → (b e g x : ℕ) → closing_count g x (month_records c b e) ≤ 1
unfolding closing_count
closing-one c ok b e g x =
    let w : ℕ → ℕ → ℕ = λ d y. count_in_group g d * pick (eqb y x) 1 0 in
    let one : pick (eqb (category c) x) 1 0 ≤ 1 = by (eqb (category c) x) (λ t. pick t 1 0 ≤ 1) (λ q. omega tests) (λ q. omega tests) in
    let m : count_in_group g (closing_duration c) * pick (eqb (category c) x) 1 0 ≤ 1 = mul-le-mul (group-one g (closing_duration c)) one in
    rw (closings-value c ok w b e)
    (by (closed_in c b e) (λ t. pick t (w (closing_duration c) (category c)) 0 ≤ 1) (λ q. m) (λ q. omega tests))

-- what a claim has at the most in a column: one closing, 54,000 thirtieths, or x expected
unfoldable pub size_in : ℕ → ℕ → ℕ
size_in x column = pick (is_count column) 1 (pick (eqb column 0) 54000 x)

-- the figures of a sound claim's month records, with rates up to m
module _ (m : ℕ) (recovery death : ℕ → ℤ) (p : (d : ℕ) → nat_abs (recovery d) ≤ m) (q : (d : ℕ) → nat_abs (death d) ≤ m) (c : Claim) (ok : Sound c) (b e : ℕ) where
  figure-size : (g column : ℕ) → nat_abs (figure recovery death g column (month_records c b e)) ≤ size_in (m * 30 * 1800) column
  unfolding figure size_in
  figure-size g column =
      let rs = month_records c b e in
      by_column column
      (λ s t u. nat_abs (pick s (pos (closing_count g column rs)) (pick t (exposure g rs) (pick u (expected recovery g rs) (expected death g rs))))
      ≤ pick s 1 (pick t 54000 (m * 30 * 1800)))
      (λ _ _. closing-one c ok b e g column) (λ _. exposure-size c b e g) (expected-size m recovery p c b e g) (expected-size m death q c b e g)

-- a figure of closings is not below 0
figure-count : (recovery death : ℕ → ℤ) (g column : ℕ) (rs : List MonthRecord) → is_count column ≡ true → non_neg (figure recovery death g column rs) ≡ true
unfolding figure
figure-count recovery death g column rs h = rw h

-- what m claims have at the most, with x expected each, and 200 times that in the weighted set; no count is below 0
pub record Sized (x m : ℕ) (s : List ℤ) : Type 0 where
  pub size : (k : ℕ) → k < 80 → nat_abs (at s k) ≤ times_at most_benefit k * (size_in x (column_at k) * m)
  pub count : (k : ℕ) → k < 80 → is_count (column_at k) ≡ true → non_neg (at s k) ≡ true

-- a claim weighs at most 200
times-high : (n k : ℕ) → n ≤ most_benefit → times_at n k ≤ times_at most_benefit k
unfolding times_at
times-high n k h = by (ltb k 40) (λ t. pick t 1 n ≤ pick t 1 most_benefit) (λ _. omega tests) (λ _. h)

-- so many times a number that is not below 0
times-count : (n : ℕ) (x : ℤ) → non_neg x ≡ true → non_neg (pos n *ℤ x) ≡ true
times-count n (pos x) h = refl
times-count n (negsuc x) h = absurd (false≢true h)

pub plus-count : (x y : ℤ) → non_neg x ≡ true → non_neg y ≡ true → non_neg (x +ℤ y) ≡ true
plus-count (pos x) (pos y) p q = refl
plus-count (negsuc x) y p q = absurd (false≢true p)
plus-count (pos x) (negsuc y) p q = absurd (false≢true q)

-- the sums over a sound claim's month records
pub records-at : (recovery death : ℕ → ℤ) (n : ℕ) (rs : List MonthRecord) (k : ℕ) → k < 80
    → at (record_sums recovery death n rs) k ≡ pos (times_at n k) *ℤ figure recovery death (group_at k) (column_at k) rs
unfolding record_sums
records-at recovery death n rs k l = times-at n _ k l ∙ ap (λ (z : ℤ). pos (times_at n k) *ℤ z) (table_at 80 _ k (pos 0) l)

pub records-shaped : (recovery death : ℕ → ℤ) (n : ℕ) (rs : List MonthRecord) → Shaped (record_sums recovery death n rs)
unfolding record_sums
records-shaped recovery death n rs = times-shaped n _

pub records-sized : (m : ℕ) (recovery death : ℕ → ℤ) → ((d : ℕ) → nat_abs (recovery d) ≤ m) → ((d : ℕ) → nat_abs (death d) ≤ m) → (c : Claim) → Sound c → (b e n : ℕ)
    → n ≤ most_benefit → Sized (m * 30 * 1800) 1 (record_sums recovery death n (month_records c b e))
records-sized m recovery death p q c ok b e n h =
    let rs = month_records c b e in
    record {
      size = λ k l.
          let f = figure recovery death (group_at k) (column_at k) rs in
          let z = figure-size m recovery death p q c ok b e (group_at k) (column_at k) in
          let one : size_in (m * 30 * 1800) (column_at k) ≤ size_in (m * 30 * 1800) (column_at k) * 1 = omega tests in
          let t : times_at n k * nat_abs f ≤ times_at most_benefit k * (size_in (m * 30 * 1800) (column_at k) * 1) = mul-le-mul (times-high n k h) (omega tests) in
          rw (records-at recovery death n rs k l, size-product (pos (times_at n k)) f) t;
      count = λ k l u.
          rw (records-at recovery death n rs k l) (times-count (times_at n k) (figure recovery death (group_at k) (column_at k) rs) (figure-count recovery death (group_at k) (column_at k) rs u));
    }

pub share-shaped : (w : Window) (rates : List ℕ) (c : Claim) → Shaped (share_of w rates c)
unfolding share_of
share-shaped w rates c = records-shaped _ _ (weight c) _

pub share-sized : (w : Window) (rates : List ℕ) (c : Claim) → Accepted rates c → Sized 54000000000 1 (share_of w rates c)
unfolding share_of
share-sized w rates c ok =
    let passed = accepted-rates rates c ok in
    records-sized 1000000 _ _ (λ d. recovery-bound rates c.cell d passed) (λ d. death-bound rates c.cell d passed) c (accepted-sound rates c ok) w.first.0 w.last.0
    (weight c) (weight-high c (accepted-checks rates c ok))

-- with any table of 32-bit numbers
pub table-sized : (kind : Kind) (w : Window) (table : List ℕ) (c : Claim) → claim_check c ≡ 0 → all_at_most 4294967295 table ≡ true
    → Sized 231928233930000 1 (share_with kind w table c)
unfolding share_with
table-sized kind w table c p small =
    records-sized 4294967295 _ _ (recovery-size table small kind c.cell) (death-size table small kind c.cell) c (sound c p) w.first.0 w.last.0 (weight c)
    (weight-high c p)

none-sized : (x : ℕ) → Sized x 0 none
none-sized x = record { size = λ k l. rw (none-at k l) (omega tests); count = λ k l u. rw (none-at k l) refl }

pub plus-sized : (x m n : ℕ) (a b : List ℤ) → Sized x m a → Sized x n b → Sized x (m + n) (plus a b)
plus-sized x m n a b p q =
    record {
      size = λ k l.
          let t = times_at most_benefit k in
          let z = size_in x (column_at k) in
          let s = size-sum (at a k) (at b k) in
          let u = p.size k l in
          let v = q.size k l in
          rw (each_at ◌+ℤ◌ a b k l, mul-add z m n, mul-add t (z * m) (z * n)) (omega tests);
      count = λ k l u. rw (each_at ◌+ℤ◌ a b k l) (plus-count (at a k) (at b k) (p.count k l u) (q.count k l u));
    }

-- 500,000 claims are within the bounds of refusal 9
claims-bound : (column : ℕ) → size_in 54000000000 column * 500000 ≤ column_bound column
unfolding size_in column_bound
claims-bound column =
    by_column column (λ s t _. pick s 1 (pick t 54000 54000000000) * 500000 ≤ pick s 500000 (pick t 27000000000 27000000000000000))
    (λ _ _. omega tests) (λ _. omega tests) (omega tests) (omega tests)

sized-within : (m : ℕ) (s : List ℤ) → m ≤ 500000 → Sized 54000000000 m s → within s ≡ true
sized-within m s h z =
    all-is column_bound s
    (λ k l.
    let size = size_in 54000000000 (column_at k) in
    let t : size * m ≤ size * 500000 = mul-le-mul_left size h in
    let c = claims-bound (column_at k) in
    let u : times_at most_benefit k * (size * m) ≤ place_bound column_bound k = mul-le-mul_left (times_at most_benefit k) (omega tests) in
    let v = z.size k l in
    in_is (place_bound column_bound k) (column_at k) (at s k) (omega tests) (z.count k l))

-- the sums of accepted claims
pub shares-sized : (w : Window) (rates : List ℕ) (cs : List Claim) → All (Accepted rates) cs → Sized 54000000000 (length cs) (sum_over plus none (share_of w rates) cs)
unfolding sum_over
shares-sized w rates [] a = none-sized 54000000000
shares-sized w rates (c ∷ cs) a =
    let e : length (c ∷ cs) ≡ 1 + length cs = omega tests in
    rw e (plus-sized 54000000000 1 (length cs) _ _ (share-sized w rates c a.0) (shares-sized w rates cs a.1))

-- a study of up to 500,000 accepted claims is within the bounds of refusal 9
pub built-within : (w : Window) (rates : List ℕ) (cs : List Claim) → All (Accepted rates) cs → length cs ≤ 500000 → within (study_of w rates cs).sums ≡ true
unfolding study_of
built-within w rates cs a h = sized-within (length cs) _ h (shares-sized w rates cs a)

-- one of fewer than 500,000 has room
pub room : (w : Window) (rates : List ℕ) (cs : List Claim) → All (Accepted rates) cs → length cs < 500000 → has_room (study_of w rates cs) ≡ true
unfolding has_room study_of
room w rates cs a h = rw (lt-ltb (length cs) 500000 h, built-within w rates cs a (omega tests))
