-- The month records of a sound claim in a window are the records of consecutive claim months: from the one that holds f to the one that holds l.
-- Assumes nothing.
use Prim.Native.Nat.{ℕ, zero, suc, ◌+◌, ◌-◌, ◌≤◌, ◌<◌}
use mathlib.Core.Path.{◌≡◌, refl, ap, ◌∙◌}
use mathlib.Core.Bool.{and-false}
use mathlib.Core.List.{List, [], ◌∷◌}
use lib.Dec.{leb}
use borrow.Author.Tests.{le-leb, lt-leb}
use native.Mathlib.Nat.{add-zero}
use Rattle.basics.specs.Pick.{pick}
use Rattle.basics.proofs.Tests.{tests, by}
use Rattle.claim_months.specs.declared.Claim.{Claim}
use Rattle.claim_months.specs.ClaimMonths.{month_first, month_last}
use Rattle.claim_months.specs.Exposure.{exposed_from, exposed_to, meets, MonthRecord, month_record, records_from, month_records}
use Rattle.claim_months.proofs.Sound.{Sound}
use Rattle.claim_months.proofs.Months.{next-starts, last-next, starts-rise}
use Rattle.claim_months.proofs.Closing.{month_from}

-- the records of the n claim months from k on, each of which has one
unfoldable pub run : Claim → ℕ → ℕ → ℕ → ℕ → List MonthRecord
run c b e k zero = []
run c b e k (suc n) = month_record c b e k ∷ run c b e (suc k) n

module _ (c : Claim) (ok : Sound c) (b e : ℕ) where
  -- no records where f > l
  none_from : exposed_to c e < exposed_from c b → (n k : ℕ) → records_from c b e k n ≡ []
  unfolding records_from meets
  none_from h zero k = refl
  none_from h (suc n) k = rw (lt-leb (exposed_from c b) (exposed_to c e)) (none_from h n (suc k))

  -- none of the claim months that start after l
  past : (n k : ℕ) → 1 ≤ k → exposed_to c e < month_first c k → records_from c b e k n ≡ []
  unfolding records_from meets
  past zero k hk h = refl
  past (suc n) k hk h =
      let r = next-starts c ok.bcd-date k hk in
      let e1 : k + 1 ≡ suc k = omega tests in
      rw (lt-leb (month_first c k) (exposed_to c e), and-false) (past n (suc k) (omega tests) (rw (← e1) (omega tests)))

  -- claim month k has a record: it starts by l and ends on f or later
  met : (k n : ℕ) → exposed_from c b ≤ exposed_to c e → month_first c k ≤ exposed_to c e → exposed_from c b ≤ month_last c k
      → records_from c b e k (suc n) ≡ month_record c b e k ∷ records_from c b e (suc k) n
  unfolding records_from meets
  met k n h1 h2 h3 =
      rw (le-leb (exposed_from c b) (exposed_to c e), le-leb (month_first c k) (exposed_to c e), le-leb (exposed_from c b) (month_last c k))

  -- the claim months from one that ends on f or later to the one that holds l
  through : (m n k : ℕ) → 1 ≤ k → exposed_from c b ≤ exposed_to c e → exposed_from c b ≤ month_last c k
      → month_first c (k + m) ≤ exposed_to c e → exposed_to c e < month_first c (k + m + 1) → records_from c b e k (suc m + n) ≡ run c b e k (suc m)
  unfolding run
  through zero n k hk h f s p =
      let e0 = add-zero k in
      let e1 : k + 0 + 1 ≡ suc k = omega tests in
      let e2 : 1 + n ≡ suc n = omega tests in
      rw e2 (met k n h (rw e0 at s) f ∙ ap (λ (r : List MonthRecord). month_record c b e k ∷ r) (past n (suc k) (omega tests) (rw e1 at p)))
  through (suc m) n k hk h f s p =
      let r = starts-rise c ok.bcd-date k (suc m) hk in
      let l = last-next c ok.bcd-date k hk in
      let l1 = last-next c ok.bcd-date (suc k) (omega tests) in
      let x = next-starts c ok.bcd-date (suc k) (omega tests) in
      let e1 : k + 1 ≡ suc k = omega tests in
      let e2 : k + suc m ≡ suc k + m = omega tests in
      let e3 : suc (suc m) + n ≡ suc (suc m + n) = omega tests in
      let l2 = rw e1 at l in
      rw e3
      (met k (suc m + n) h (omega tests) f
      ∙ ap (λ (r : List MonthRecord). month_record c b e k ∷ r)
      (through m n (suc k) (omega tests) h (omega tests) (rw e2 at s) (rw e2 at p)))

  -- the claim months before the one that holds f have none
  skip : (j n k : ℕ) → 1 ≤ k → month_first c (k + j) ≤ exposed_from c b → records_from c b e k (j + n) ≡ records_from c b e (k + j) n
  unfolding records_from meets
  skip zero n k hk s =
      let e0 = add-zero k in
      let e1 : 0 + n ≡ n = omega tests in
      rw (e0, e1)
  skip (suc j) n k hk s =
      let e2 : k + suc j ≡ suc k + j = omega tests in
      let e3 : suc j + n ≡ suc (j + n) = omega tests in
      let e1 : k + 1 ≡ suc k = omega tests in
      let r = starts-rise c ok.bcd-date (suc k) j (omega tests) in
      let s2 : month_first c (suc k + j) ≤ exposed_from c b = rw e2 at s in
      let l = rw e1 at (last-next c ok.bcd-date k hk) in
      rw (e2, e3, lt-leb (exposed_from c b) (month_last c k) (omega tests), and-false) (skip j n (suc k) (omega tests) s2)

  pub records-run : (j m : ℕ) → j + m < 1800 → exposed_from c b ≤ exposed_to c e → month_first c (1 + j) ≤ exposed_from c b → exposed_from c b ≤ month_last c (1 + j)
      → month_first c (1 + j + m) ≤ exposed_to c e → exposed_to c e < month_first c (1 + j + m + 1) → month_records c b e ≡ run c b e (1 + j) (suc m)
  unfolding month_records
  records-run j m jm h f1 f2 l1 l2 =
      let n = 1800 - (j + suc m) in
      let all : 1800 ≡ j + (suc m + n) = omega tests in
      ap (records_from c b e 1) all ∙ skip j (suc m + n) 1 (omega tests) f1 ∙ through m n (1 + j) (omega tests) h f2 l1 l2

  pub records-none : exposed_to c e < exposed_from c b → month_records c b e ≡ []
  unfolding month_records
  records-none h = none_from h 1800 1

-- the claim month that holds a day
pub record HeldFrom (c : Claim) (t k n r : ℕ) : Type 0 where
  pub low : k ≤ r
  pub high : r < k + n
  pub starts : month_first c r ≤ t
  pub ends : t ≤ month_last c r

pub month-holds : (c : Claim) → Sound c → (t n k : ℕ) → 1 ≤ k → month_first c k ≤ t → t < month_first c (k + n) → HeldFrom c t k n (month_from c t k n)
unfolding month_from
month-holds c ok t zero k hk s p = absurd (omega (tests, ap (month_first c) (add-zero k)))
month-holds c ok t (suc n) k hk s p =
    let e1 : k + 1 ≡ suc k = omega tests in
    let e2 : k + suc n ≡ suc k + n = omega tests in
    let l = rw e1 at (last-next c ok.bcd-date k hk) in
    by (leb t (month_last c k)) (λ y. HeldFrom c t k (suc n) (pick y k (month_from c t (suc k) n)))
    (λ y. record { low = omega tests; high = omega tests; starts = s; ends = omega tests })
    (λ y.
    let r = month-holds c ok t n (suc k) (omega tests) (omega tests) (rw e2 at p) in
    record { low = omega tests; high = omega tests; starts = r.starts; ends = r.ends })
