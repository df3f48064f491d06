-- The closing law: in a window in which a sound claim is closed, exactly one record has a category, the claim's, at a duration that does
-- not depend on the window; in any other window none has.
-- Assumes nothing.
use Prim.Native.Nat.{ℕ, zero, suc, ◌+◌, ◌-◌, ◌≤◌, ◌<◌, min, max}
use mathlib.Core.Path.{◌≡◌, refl, sym, ap, ap₂, ◌∙◌}
use mathlib.Core.Bool.{Bool, true, false, ◌&&◌, not, and-false}
use mathlib.Core.List.{◌∷◌}
use lib.Dec.{leb, eqb}
use borrow.Author.Tests.{leb-true, le-leb, lt-leb, ne_eqb}
use native.Mathlib.Nat.{add-zero}
use Rattle.basics.specs.Pick.{pick}
use Rattle.calendar.specs.Calendar.{day_number}
use Rattle.basics.proofs.Tests.{tests, by, pick_is, is-pick, and_left, and_right}
use Rattle.calendar.proofs.Laws.{day-last}
use Rattle.claim_months.specs.declared.Claim.{Claim}
use Rattle.claim_months.specs.declared.Window.{Window}
use Rattle.claim_months.specs.Claim.{is_missing, is_closed, bcd_day, termination_day, first_duration, category, within_days}
use Rattle.claim_months.specs.ClaimMonths.{month_first, month_last}
use Rattle.claim_months.specs.Exposure.{closed_in, exposed_from, exposed_to, meets, closing_category, month_record, records_from, month_records, closings}
use Rattle.claim_months.proofs.Sound.{Sound}
use Rattle.claim_months.proofs.Parts.{Holds}
use Rattle.claim_months.proofs.Months.{first-starts, next-starts, last-next, months-end}

-- the first of the n claim months from k on that ends on day t or later, or the one after them
unfoldable pub month_from : Claim → ℕ → ℕ → ℕ → ℕ
month_from c t k zero = k
month_from c t k (suc n) = pick (leb t (month_last c k)) k (month_from c t (suc k) n)

-- the duration of the claim month that holds the termination date
unfoldable pub closing_duration : Claim → ℕ
closing_duration c = first_duration c + (month_from c (termination_day c) 1 1800 - 1)

-- closed in the window: closed, from b to e
pub closed_of : (c : Claim) (b e : ℕ) → closed_in c b e ≡ true → (is_closed c ≡ true) × (b ≤ termination_day c) × (termination_day c ≤ e)
unfolding closed_in
closed_of c b e q =
    let t = termination_day c in
    let z = is_closed c in
    let q2 = and_left (z && leb b t) (leb t e) q in
    (and_left z (leb b t) q2, leb-true b t (and_right z (leb b t) q2), leb-true t e (and_right (z && leb b t) (leb t e) q))

-- the category of a closed sound claim is 1 to 5
pub code-range : (c : Claim) → Sound c → is_closed c ≡ true → (1 ≤ category c) × (category c ≤ 5)
unfolding category
code-range c ok z =
    let l = ok.code-low z in
    let u = ok.code-high z in
    by (not (is_missing c.maximum) && within_days 45 (termination_day c) (day_number c.maximum))
    (λ y. let x = pick y 4 (pick (eqb c.code 6) 1 c.code) in (1 ≤ x) × (x ≤ 5)) (λ _. omega tests)
    (λ _.
    by (eqb c.code 6) (λ y. let x = pick y 1 c.code in (1 ≤ x) × (x ≤ 5)) (λ q. omega tests) (λ q. omega tests))

-- claim month k's part in a sum over closing months
abbrev closing_share : (ℕ → ℕ → ℕ) → Claim → ℕ → ℕ → ℕ → ℕ
closing_share w c b e k =
    let x = closing_category c b e (month_first c k) (month_last c k) in
    pick (meets c b e k) (pick (eqb x 0) 0 (w (first_duration c + (k - 1)) x)) 0

module _ (c : Claim) (ok : Sound c) (w : ℕ → ℕ → ℕ) (b e : ℕ) where
  closings-step : (k n : ℕ) → closings w (records_from c b e k (suc n)) ≡ closing_share w c b e k + closings w (records_from c b e (suc k) n)
  unfolding closings records_from month_record
  closings-step k n =
      let rest = records_from c b e (suc k) n in
      let x = closing_category c b e (month_first c k) (month_last c k) in
      by (meets c b e k)
      (λ y. closings w (pick y (month_record c b e k ∷ rest) rest)
      ≡ pick y (pick (eqb x 0) 0 (w (first_duration c + (k - 1)) x)) 0 + closings w rest)
      (λ y. refl) (λ y. omega tests)

  -- a month that doesn't hold t has no part
  share-none : (k : ℕ) → closing_category c b e (month_first c k) (month_last c k) ≡ 0 → closing_share w c b e k ≡ 0
  share-none k h = pick_is (meets c b e k) (λ y. rw h) (λ y. refl)

  none_from : ((k : ℕ) → 1 ≤ k → closing_category c b e (month_first c k) (month_last c k) ≡ 0) → (n k : ℕ) → 1 ≤ k → closings w (records_from c b e k n) ≡ 0
  unfolding closings records_from
  none_from h zero k hk = refl
  none_from h (suc n) k hk =
      closings-step k n ∙ omega (tests, share-none k (h k hk), none_from h n (suc k) (omega tests))

  -- a claim not closed in the window has no closing month there
  pub closings-none : closed_in c b e ≡ false → closings w (month_records c b e) ≡ 0
  unfolding month_records closing_category
  closings-none q = none_from (λ k hk. rw q) 1800 1 (omega tests)

  -- of a claim closed in the window, the months after the closing month have no part ..
  after-from : (n k : ℕ) → 1 ≤ k → termination_day c < month_first c k → closings w (records_from c b e k n) ≡ 0
  unfolding closings records_from closing_category
  after-from zero k hk h = refl
  after-from (suc n) k hk h =
      let r = next-starts c ok.bcd-date k hk in
      let z : closing_category c b e (month_first c k) (month_last c k) ≡ 0 = rw (lt-leb (month_first c k) (termination_day c), and-false) in
      let e1 : k + 1 ≡ suc k = omega tests in
      closings-step k n
      ∙ omega (tests, share-none k z, after-from n (suc k) (omega tests) (rw (← e1) (omega tests)))

  module _ (q : closed_in c b e ≡ true) where
    is-closed : is_closed c ≡ true
    is-closed = (closed_of c b e q).0

    pub category-known : eqb (category c) 0 ≡ false
    category-known = ne_eqb (category c) 0 (λ z. omega (tests, (code-range c ok is-closed).0))

    -- .. and the closing month has the claim's category
    share-closing : (k : ℕ) → 1 ≤ k → month_first c k ≤ termination_day c → termination_day c ≤ month_last c k
        → closing_share w c b e k ≡ w (first_duration c + (k - 1)) (category c)
    unfolding closing_category meets exposed_to exposed_from
    share-closing k hk s p =
        let f = (closed_of c b e q).1 in
        let t = (closed_of c b e q).2 in
        let o = ok.bcd-first is-closed in
        simp
        (q, is-closed, le-leb (month_first c k) (termination_day c) s, le-leb (termination_day c) (month_last c k) p, category-known, le-leb (max (bcd_day c) b) (min e (termination_day c)) (omega tests), le-leb (month_first c k) (min e (termination_day c)) (omega tests), le-leb (max (bcd_day c) b) (month_last c k) (omega tests))

    one_from : (n k : ℕ) → 1 ≤ k → month_first c k ≤ termination_day c → termination_day c < month_first c (k + n)
        → closings w (records_from c b e k n) ≡ w (first_duration c + (month_from c (termination_day c) k n - 1)) (category c)
    unfolding month_from closing_category
    one_from zero k hk s p = absurd (omega (tests, ap (month_first c) (add-zero k)))
    one_from (suc n) k hk s p =
        let l = last-next c ok.bcd-date k hk in
        let e1 : k + 1 ≡ suc k = omega tests in
        let e2 : k + suc n ≡ suc k + n = omega tests in
        let l1 = rw e1 at l in
        let t = termination_day c in
        closings-step k n
        ∙ by (leb t (month_last c k))
        (λ y. closing_share w c b e k + closings w (records_from c b e (suc k) n) ≡ w (first_duration c + (pick y k (month_from c t (suc k) n) - 1)) (category c))
        (λ y. omega (tests, share-closing k hk s (omega tests), after-from n (suc k) (omega tests) (omega tests)))
        (λ y.
        omega
        (tests, share-none k (rw (lt-leb t (month_last c k) (omega tests), and-false)), one_from n (suc k) (omega tests) (omega tests) (rw e2 at p)))

    pub closings-one : closings w (month_records c b e) ≡ w (closing_duration c) (category c)
    unfolding month_records closing_duration
    closings-one =
        let o = ok.bcd-first is-closed in
        let l = day-last c.termination (ok.termination-date is-closed) in
        let m = months-end c ok.bcd-date in
        let s = first-starts c ok.bcd-date in
        one_from 1800 1 (omega tests) (omega tests) (omega tests)

-- the closing law, in one line: the claim's closing counts in the windows that hold its termination date
pub closings-value : (c : Claim) → Sound c → (w : ℕ → ℕ → ℕ) (b e : ℕ)
    → closings w (month_records c b e) ≡ pick (closed_in c b e) (w (closing_duration c) (category c)) 0
closings-value c ok w b e = is-pick (closed_in c b e) (closings-one c ok w b e) (closings-none c ok w b e)

cut-pick : (z : Bool) (t b m e x : ℕ) → b ≤ m → m < e
    → pick (z && leb b t && leb t m) x 0 + pick (z && leb (m + 1) t && leb t e) x 0 ≡ pick (z && leb b t && leb t e) x 0
cut-pick false t b m e x bm me = refl
cut-pick true t b m e x bm me =
    by (leb t m) (λ y. pick (leb b t && y) x 0 + pick (leb (m + 1) t && leb t e) x 0 ≡ pick (leb b t && leb t e) x 0)
    (λ y. rw (lt-leb (m + 1) t (omega tests), le-leb t e (omega tests)) (omega tests))
    (λ y. rw (le-leb b t (omega tests), le-leb (m + 1) t (omega tests)) (omega tests))

-- the window b..e cut between day m and the next
pub cut-closings : (c : Claim) → Sound c → (w : ℕ → ℕ → ℕ) (b m e : ℕ) → b ≤ m → m < e
    → closings w (month_records c b m) + closings w (month_records c (m + 1) e) ≡ closings w (month_records c b e)
unfolding closed_in
cut-closings c ok w b m e bm me =
    ap₂ (λ (x y : ℕ). x + y) (closings-value c ok w b m) (closings-value c ok w (m + 1) e)
    ∙ cut-pick (is_closed c) (termination_day c) b m e (w (closing_duration c) (category c)) bm me ∙ sym (closings-value c ok w b e)

-- closed in a window: closed, with the termination date in it
pub closed-holds : (c : Claim) (v : Window) → closed_in c v.first.0 v.last.0 ≡ true → Holds (termination_day c) v
closed-holds c v q = ((closed_of c v.first.0 v.last.0 q).1, (closed_of c v.first.0 v.last.0 q).2)

pub holds-closed : (c : Claim) (v : Window) → is_closed c ≡ true → Holds (termination_day c) v → closed_in c v.first.0 v.last.0 ≡ true
unfolding closed_in
holds-closed c v z h = rw (z, le-leb v.first.0 (termination_day c) h.0, le-leb (termination_day c) v.last.0 h.1)
