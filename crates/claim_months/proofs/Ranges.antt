-- Ranges of the month records: how many, their thirtieths, their durations, and the size of sums over them. `records-length`, `thirtieths-range` and
-- `durations-low` are for readers.
-- Assumes nothing.
use Rattle.calendar.specs.Calendar.{last_day_number}
use Prim.Native.Nat.{ℕ, zero, suc, ◌+◌, ◌-◌, ◌*◌, ◌≤◌, ◌<◌, min}
use mathlib.Core.Path.{◌≡◌, refl, subst⁻¹}
use mathlib.Core.Bool.{Bool, true, false, ◌||◌, cond, and-eq-true_iff}
use mathlib.Core.List.{List, [], ◌∷◌}
use lib.Dec.{leb, ltb, eqb, le→leb}
use lib.ListN.{length}
use lib.IntN.{ℤ, pos, negsuc, nat_abs, ◌*ℤ◌}
use lib.Signed.{◌≤ℤ◌, le_z_yes}
use native.Mathlib.Nat.{add-zero, mul-le-mul, mul-suc}
use Rattle.basics.specs.Pick.{pick}
use Rattle.basics.proofs.Tests.{tests, by}
use Rattle.claim_months.specs.declared.Claim.{Claim}
use Rattle.claim_months.specs.Claim.{termination_day, first_duration, category}
use Rattle.claim_months.specs.ClaimMonths.{month_first, month_last}
use Rattle.claim_months.specs.Exposure.{closed_in, exposed_from, exposed_to, meets, month_b, closing_u, month_u, MonthRecord, thirtieths, month_record, records_from, month_records, weighted}
use Rattle.claim_months.specs.Span.{span_of}
use Rattle.basics.proofs.Integers.{size-sub, size-sum, size-product}
use Rattle.claim_months.proofs.Sound.{Sound}
use Rattle.claim_months.proofs.Months.{next-starts, last-next}
use Rattle.claim_months.proofs.Closing.{closed_of}
use Rattle.claim_months.proofs.MonthRuns.{run}
use Rattle.claim_months.proofs.Spans.{b_high, u_high, first-duration, span_run, Runs, category-none, ends-early, by_runs}

-- at most 1,800 records
length_from : (c : Claim) (b e n k : ℕ) → length (records_from c b e k n) ≤ n
unfolding records_from
length_from c b e zero k = omega tests
length_from c b e (suc n) k =
    let r = length_from c b e n (suc k) in
    by (meets c b e k) (λ y. length (pick y (month_record c b e k ∷ records_from c b e (suc k) n) (records_from c b e (suc k) n)) ≤ suc n)
    (λ q. omega tests) (λ q. omega tests)

pub records-length : (c : Claim) (b e : ℕ) → length (month_records c b e) ≤ 1800
unfolding month_records
records-length c b e = length_from c b e 1800 1

-- the size of a weighted sum of a claim in a window, for weights up to m
record-size : (c : Claim) (b e k : ℕ) → nat_abs (thirtieths (month_record c b e k)) ≤ 30
unfolding month_record
record-size c b e k =
    size-sub (month_u c b e (month_first c k) (month_last c k)) (month_b b (month_first c k) (month_last c k)) 30
    (u_high c b e (month_first c k) (month_last c k)) (b_high b (month_first c k) (month_last c k))

size-from : (w : ℕ → ℤ) (m : ℕ) → ((d : ℕ) → nat_abs (w d) ≤ m) → (c : Claim) (b e n k : ℕ) → nat_abs (weighted w (records_from c b e k n)) ≤ m * 30 * n
unfolding records_from weighted
size-from w m h c b e zero k = omega tests
size-from w m h c b e (suc n) k =
    let rest = records_from c b e (suc k) n in
    let r = month_record c b e k in
    let i = size-from w m h c b e n (suc k) in
    let s = mul-suc (m * 30) n in
    by (meets c b e k) (λ y. nat_abs (weighted w (pick y (r ∷ rest) rest)) ≤ m * 30 * suc n)
    (λ q.
    let t = size-sum (w r.duration *ℤ thirtieths r) (weighted w rest) in
    let p = size-product (w r.duration) (thirtieths r) in
    let u : nat_abs (w r.duration) * nat_abs (thirtieths r) ≤ m * 30 = mul-le-mul (h r.duration) (record-size c b e k) in
    omega tests)
    (λ q. omega tests)

pub weighted-size : (w : ℕ → ℤ) (m : ℕ) → ((d : ℕ) → nat_abs (w d) ≤ m) → (c : Claim) (b e : ℕ) → nat_abs (weighted w (month_records c b e)) ≤ m * 30 * 1800
unfolding month_records
weighted-size w m h c b e = size-from w m h c b e 1800 1

-- a statement holds of every record
abbrev pub Every : (MonthRecord → Type 0) → List MonthRecord → Type 0
Every P [] = Unit {0}
Every P (r ∷ rs) = P r × Every P rs

-- what holds of each claim month that meets f..l holds of every record
every-from : (P : MonthRecord → Type 0) (c : Claim) (b e : ℕ) → ((k : ℕ) → 1 ≤ k → meets c b e k ≡ true → P (month_record c b e k))
    → (n k : ℕ) → 1 ≤ k → Every P (records_from c b e k n)
unfolding records_from
every-from P c b e h zero k hk = tt
every-from P c b e h (suc n) k hk =
    let rest = every-from P c b e h n (suc k) (omega tests) in
    by (meets c b e k) (λ y. Every P (pick y (month_record c b e k ∷ records_from c b e (suc k) n) (records_from c b e (suc k) n)))
    (λ q. (h k hk q, rest)) (λ q. rest)

pub every-record : (P : MonthRecord → Type 0) (c : Claim) (b e : ℕ) → ((k : ℕ) → 1 ≤ k → meets c b e k ≡ true → P (month_record c b e k))
    → Every P (month_records c b e)
unfolding month_records
every-record P c b e h = every-from P c b e h 1800 1 (omega tests)

-- in a month s..p of 28 days or more that b cuts, U is at least B less one
closing_u-low : (c : Claim) (b s p : ℕ) → s + 27 ≤ p → s < b → b ≤ p → b ≤ termination_day c → 30 ≤ closing_u c s p + (p - b + 2)
unfolding closing_u
closing_u-low c b s p sp sb bp bt = low (eqb (category c) 1 || eqb (category c) 2) (leb 27 c.termination.day)
  where
    low : (x y : Bool) → 30 ≤ pick x 30 (pick y (30 - (p - termination_day c)) (min 30 (termination_day c - s + 1))) + (p - b + 2)
    low true y = omega tests
    low false true = omega tests
    low false false = omega tests

U-low : (c : Claim) (b e s p : ℕ) → s + 27 ≤ p → s < b → b ≤ p → b ≤ exposed_to c e → 30 ≤ month_u c b e s p + (p - b + 2)
unfolding month_u
U-low c b e s p sp sb bp bl =
    let l = exposed_to c e in
    by (ltb p l) (λ y. 30 ≤ pick y 30 (pick (closed_in c b e) (closing_u c s p) (30 - (p - l))) + (p - b + 2)) (λ q. omega tests)
    (λ q.
    by (closed_in c b e) (λ y. 30 ≤ pick y (closing_u c s p) (30 - (p - l)) + (p - b + 2))
    (λ z. closing_u-low c b s p sp sb bp (closed_of c b e z).1) (λ z. omega tests))

B-over : (b s p u : ℕ) → (s < b → 30 ≤ u + (p - b + 2)) → month_b b s p ≤ u + 1
unfolding month_b
B-over b s p u h =
    by (leb b s) (λ y. pick y 0 (30 - (p - b + 1)) ≤ u + 1) (λ q. omega tests) (λ q. let g = h (omega tests) in omega tests)

-- thirtieths from −1 to 30
pub record InRange (r : MonthRecord) : Type 0 where
  pub b_high : r.B ≤ r.U + 1
  pub u_high : r.U ≤ 30

pub record-range : (c : Claim) → Sound c → (b e k : ℕ) → 1 ≤ k → meets c b e k ≡ true → InRange (month_record c b e k)
unfolding month_record meets exposed_from
record-range c ok b e k hk q =
    let s = month_first c k in
    let p = month_last c k in
    let n = next-starts c ok.bcd-date k hk in
    let l = last-next c ok.bcd-date k hk in
    let m = simp and-eq-true_iff at q in
    record {
      b_high = B-over b s p (month_u c b e s p) (λ h. U-low c b e s p (omega tests) h (omega tests) (omega tests));
      u_high = u_high c b e s p;
    }

pub thirtieths-range : (c : Claim) → Sound c → (b e : ℕ) → Every InRange (month_records c b e)
thirtieths-range c ok b e = every-record InRange c b e (record-range c ok b e)

-- the same of the signed numbers that a listing writes
abbrev pub SignedRange : MonthRecord → Type 0
SignedRange r = (negsuc 0 ≤ℤ thirtieths r) × (thirtieths r ≤ℤ pos 30)

pub range-signed : (r : MonthRecord) → InRange r → SignedRange r
range-signed r h =
    let below = negsuc (r.B - suc r.U) in
    let above = pos (r.U - r.B) in
    by (ltb r.U r.B) (λ y. (negsuc 0 ≤ℤ cond y below above) × (cond y below above ≤ℤ pos 30))
    (λ q. (le_z_yes (le→leb (r.B - suc r.U) 0 (omega tests)), le_z_yes tt))
    (λ q. (le_z_yes tt, le_z_yes (le→leb (r.U - r.B) 30 (omega tests))))

pub signed_range : (c : Claim) → Sound c → (b e : ℕ) → Every SignedRange (month_records c b e)
signed_range c ok b e = every-record SignedRange c b e (λ k hk q. range-signed (month_record c b e k) (record-range c ok b e k hk q))

-- durations are from 2 on
pub durations-low : (c : Claim) → Sound c → (b e : ℕ) → Every (λ (r : MonthRecord). 2 ≤ r.duration) (month_records c b e)
unfolding month_record
durations-low c ok b e = every-record _ c b e (λ k hk q. omega (tests, (first-duration c ok).0))

-- the first record has duration d, the next d + 1, and so on
abbrev pub Rising : ℕ → List MonthRecord → Type 0
Rising d [] = Unit {0}
Rising d (r ∷ rs) = (r.duration ≡ d) × Rising (d + 1) rs

rising-run : (c : Claim) (b e n k d : ℕ) → 1 ≤ k → first_duration c + (k - 1) ≡ d → Rising d (run c b e k n)
unfolding run month_record
rising-run c b e zero k d hk h = tt
rising-run c b e (suc n) k d hk h = (h, rising-run c b e n (suc k) (d + 1) (omega tests) (omega tests))

pub durations-rise : (c : Claim) → Sound c → (b e : ℕ) → e ≤ last_day_number → Rising (span_of (month_records c b e)).first.0 (month_records c b e)
unfolding span_of
durations-rise c ok b e h =
    by_runs c ok b e h (λ (rs : List MonthRecord). Rising (span_of rs).first.0 rs) tt
    (λ k m r. rw (span_run c b e k m) (rising-run c b e (suc m) k _ r.low refl))

-- only the last record has a category other than 0
abbrev pub ClosingLast : List MonthRecord → Type 0
ClosingLast [] = Unit {0}
ClosingLast (r ∷ []) = Unit {0}
ClosingLast (r ∷ s ∷ rs) = (r.category ≡ 0) × ClosingLast (s ∷ rs)

closing-run : (c : Claim) → Sound c → (b e k m : ℕ) → Runs c b e k m → (n i : ℕ) → i + n ≡ m → ClosingLast (run c b e (k + i) (suc n))
unfolding run month_record
closing-run c ok b e k m r zero i h = tt
closing-run c ok b e k m r (suc n) i h =
    let e1 : suc (k + i) ≡ k + suc i = omega tests in
    (category-none c ok b e (k + i) (ends-early c ok b e k m r i (omega tests)), subst⁻¹ (λ (x : ℕ). ClosingLast (run c b e x (suc n))) e1 (closing-run c ok b e k m r n (suc i) (omega tests)))

pub closing-last : (c : Claim) → Sound c → (b e : ℕ) → e ≤ last_day_number → ClosingLast (month_records c b e)
closing-last c ok b e h =
    by_runs c ok b e h ClosingLast tt (λ k m r. rw (add-zero k) at (closing-run c ok b e k m r m 0 (omega tests)))
