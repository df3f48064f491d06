-- What the span says of the month records: sums over them are sums over the span's months, and the ranges of what it holds.
-- Assumes nothing.
use Prim.Native.Nat.{ℕ, zero, suc, ◌+◌, ◌-◌, ◌*◌, ◌≤◌, ◌<◌, min, max}
use mathlib.Core.Path.{◌≡◌, refl, sym, ap, ap₂, ◌∙◌, subst⁻¹}
use mathlib.Core.Bool.{Bool, true, false, ◌&&◌, ◌||◌, and-false}
use mathlib.Core.List.{List, []}
use lib.Dec.{leb, ltb, eqb}
use lib.ListN.{length}
use lib.IntN.{ℤ, nat_abs, sub_ℕ, ◌+ℤ◌, ◌*ℤ◌, +ℤ_assoc, +ℤ_idl, +ℤ_idr}
use borrow.Author.Tests.{le-leb, lt-leb, lt-ltb, leb-true, leb-false}
use native.Mathlib.Nat.{add-zero}
use Rattle.basics.specs.Pick.{pick}
use Rattle.calendar.specs.Calendar.{day_number, last_day_number}
use Rattle.calendar.proofs.Laws.{day-last}
use Rattle.basics.proofs.Integers.{size-sub}
use Rattle.basics.proofs.Tests.{tests, by, is-pick, and_left}
use Rattle.claim_months.specs.declared.Claim.{Claim}
use Rattle.claim_months.specs.declared.Span.{Span}
use Rattle.claim_months.specs.Claim.{is_closed, bcd_day, termination_day, first_duration, ep, category}
use Rattle.claim_months.specs.ClaimMonths.{month_first, month_last}
use Rattle.claim_months.specs.Exposure.{closed_in, exposed_from, exposed_to, month_b, closing_u, month_u, closing_category, MonthRecord, thirtieths, month_record, month_records, weighted, closings}
use Rattle.claim_months.specs.Span.{last_record, span_of, span_u, span_b, span_thirtieths, span_weighted, span_closing, SpanBounds}
use Rattle.basics.specs.Series.{sum_to}
use Rattle.claim_months.specs.design.Private.{span_category}
use Rattle.claim_months.proofs.Sound.{Sound}
use Rattle.claim_months.proofs.Months.{first-starts, last-next, starts-rise, months-end}
use Rattle.claim_months.proofs.MonthRuns.{run, records-run, records-none, month-holds}
use Rattle.claim_months.proofs.Closing.{month_from, closed_of, code-range}

-- a sum from its first term
pub sum-front : (f : ℕ → ℤ) (n : ℕ) → sum_to f (suc n) ≡ f 0 +ℤ sum_to (λ j. f (suc j)) n
unfolding sum_to
sum-front f zero = +ℤ_idl (f 0) ∙ sym (+ℤ_idr (f 0))
sum-front f (suc n) = ap (λ (x : ℤ). x +ℤ f (suc n)) (sum-front f n) ∙ +ℤ_assoc (f 0) (sum_to (λ j. f (suc j)) n) (f (suc n))

pub sum_same : (f g : ℕ → ℤ) (n : ℕ) → ((j : ℕ) → j < n → f j ≡ g j) → sum_to f n ≡ sum_to g n
unfolding sum_to
sum_same f g zero h = refl
sum_same f g (suc n) h = ap₂ (λ (x y : ℤ). x +ℤ y) (sum_same f g n (λ j k. h j (omega tests))) (h n (omega tests))

-- the weighted sum over a run of months
run-weighted : (c : Claim) (b e : ℕ) (w : ℕ → ℤ) (n k : ℕ) → 1 ≤ k
    → weighted w (run c b e k n) ≡ sum_to (λ j. w (first_duration c + (k - 1) + j) *ℤ thirtieths (month_record c b e (k + j))) n
unfolding weighted run sum_to month_record
run-weighted c b e w zero k hk = refl
run-weighted c b e w (suc n) k hk =
    let d = first_duration c + (k - 1) in
    let first : (i j : ℕ) → i ≡ j → (x y : ℕ) → x ≡ y → w i *ℤ thirtieths (month_record c b e x) ≡ w j *ℤ thirtieths (month_record c b e y) =
    λ i j p x y q. ap₂ (λ (u v : ℕ). w u *ℤ thirtieths (month_record c b e v)) p q in
    ap₂ (λ (u v : ℤ). u +ℤ v) (first d (d + 0) (sym (add-zero d)) k (k + 0) (sym (add-zero k)))
    (run-weighted c b e w n (suc k) (omega tests)
    ∙ sum_same _ _ n
    (λ j l. first (first_duration c + (suc k - 1) + j) (d + suc j) (omega tests) (suc k + j) (k + suc j) (omega tests)))
    ∙ sym (sum-front (λ j. w (d + j) *ℤ thirtieths (month_record c b e (k + j))) n)

-- the last record of a run
pub run-last : (c : Claim) (b e m k : ℕ) → last_record (month_record c b e k) (run c b e (suc k) m) ≡ month_record c b e (k + m)
unfolding last_record run
run-last c b e zero k = ap (month_record c b e) (sym (add-zero k))
run-last c b e (suc m) k =
    let e1 : suc k + m ≡ k + suc m = omega tests in
    run-last c b e m (suc k) ∙ ap (month_record c b e) e1

run_length : (c : Claim) (b e n k : ℕ) → length (run c b e k n) ≡ n
unfolding run
run_length c b e zero k = refl
run_length c b e (suc n) k = ap suc (run_length c b e n (suc k))

-- the span of the run from claim month k to claim month k + m
abbrev pub run_span : Claim → ℕ → ℕ → ℕ → ℕ → Span
run_span c b e k m =
    record {
      first = record { 0 = first_duration c + (k - 1) };
      months = suc m;
      before = record { 0 = month_b b (month_first c k) (month_last c k) };
      through = record { 0 = month_u c b e (month_first c (k + m)) (month_last c (k + m)) };
      category = closing_category c b e (month_first c (k + m)) (month_last c (k + m));
    }

pub span_run : (c : Claim) (b e k m : ℕ) → span_of (run c b e k (suc m)) ≡ run_span c b e k m
unfolding run span_of month_record
span_run c b e k m = λ i.
    record {
      first = record { 0 = first_duration c + (k - 1) };
      months = suc (run_length c b e m (suc k) i);
      before = record { 0 = month_b b (month_first c k) (month_last c k) };
      through = record { 0 = (run-last c b e m k i).U };
      category = (run-last c b e m k i).category;
    }

-- where the records of a claim in a window are: the claim months k to k + m, the first of which holds f and the last l
pub record Runs (c : Claim) (b e k m : ℕ) : Type 0 where
  pub low : 1 ≤ k
  pub high : k + m ≤ 1800
  pub starts : month_first c k ≤ exposed_from c b
  pub holds-f : exposed_from c b ≤ month_last c k
  pub reaches : month_first c (k + m) ≤ exposed_to c e
  pub holds-l : exposed_to c e ≤ month_last c (k + m)

pub runs-records : (c : Claim) → Sound c → (b e k m : ℕ) → exposed_from c b ≤ exposed_to c e → Runs c b e k m → month_records c b e ≡ run c b e k (suc m)
runs-records c ok b e k m h r =
    let l = last-next c ok.bcd-date (k + m) (omega (tests, r.low)) in
    let e1 : 1 + (k - 1) ≡ k = omega (tests, r.low) in
    rw e1 at (records-run c ok b e (k - 1) m (omega (tests, r.low, r.high)) h (rw e1 r.starts) (rw e1 r.holds-f) (rw e1 r.reaches)
    (rw e1 (omega (tests, r.holds-l))))

pub to-window : (c : Claim) (e : ℕ) → exposed_to c e ≤ e
unfolding exposed_to
to-window c e = by (is_closed c) (λ z. pick z (min e (termination_day c)) e ≤ e) (λ _. omega tests) (λ _. omega tests)

-- the claim month of an earlier day is no later
pub months-ordered : (c : Claim) → Sound c → (x y k r : ℕ) → x ≤ y → 1 ≤ r → month_first c k ≤ x → y ≤ month_last c r → k ≤ r
months-ordered c ok x y k r xy hr s p =
    by (leb k r) (λ _. k ≤ r) (λ q. omega tests)
    (λ q.
    let l = last-next c ok.bcd-date r hr in
    let u = starts-rise c ok.bcd-date (r + 1) (k - (r + 1)) (omega tests) in
    let e1 : r + 1 + (k - (r + 1)) ≡ k = omega tests in
    let v : month_first c (r + 1) + 28 * (k - (r + 1)) ≤ month_first c k = rw e1 at u in
    absurd (omega tests))

pub runs : (c : Claim) → Sound c → (b e : ℕ) → e ≤ last_day_number → exposed_from c b ≤ exposed_to c e → (k : ℕ) × (m : ℕ) × Runs c b e k m
unfolding exposed_from
runs c ok b e h fl =
    let f = exposed_from c b in
    let l = exposed_to c e in
    let le = to-window c e in
    let s = first-starts c ok.bcd-date in
    let n = months-end c ok.bcd-date in
    let hf = month-holds c ok f 1800 1 (omega tests) (omega tests) (omega tests) in
    let hl = month-holds c ok l 1800 1 (omega tests) (omega tests) (omega tests) in
    let kf = month_from c f 1 1800 in
    let kl = month_from c l 1 1800 in
    let o : kf ≤ kl = months-ordered c ok f l kf kl fl hl.low hf.starts hl.ends in
    let e1 : kf + (kl - kf) ≡ kl = omega (tests, o) in (
      kf,
      kl - kf,
      record {
        low = hf.low;
        high = omega (tests, o, hl.high);
        starts = hf.starts;
        holds-f = hf.ends;
        reaches = rw e1 hl.starts;
        holds-l = rw e1 hl.ends;
      },
    )

-- B of a month that starts in the window
pub B-none : (b s p : ℕ) → b ≤ s → month_b b s p ≡ 0
unfolding month_b
B-none b s p h = rw (le-leb b s)

-- in the runs' months, but for the last, U is 30 and there is no closing; but for the first, B is 0
module _ (c : Claim) (ok : Sound c) (b e : ℕ) where
  U-full : (i : ℕ) → month_last c i < exposed_to c e → month_u c b e (month_first c i) (month_last c i) ≡ 30
  unfolding month_u
  U-full i h = rw (lt-ltb (month_last c i) (exposed_to c e))

  pub category-none : (i : ℕ) → month_last c i < exposed_to c e → closing_category c b e (month_first c i) (month_last c i) ≡ 0
  unfolding closing_category closed_in exposed_to
  category-none i h = early (is_closed c) (termination_day c) (month_first c i) (month_last c i) (category c) h
    where
      early : (z : Bool) (t s p x : ℕ) → p < pick z (min e t) e → pick (z && leb b t && leb t e && leb s t && leb t p) x 0 ≡ 0
      early false t s p x h = refl
      early true t s p x h = let k : p < min e t = h in rw (lt-leb t p (omega tests), and-false)

  -- the months of the run before the last end before l; those after the first start after b
  module _ (k m : ℕ) (r : Runs c b e k m) where
    pub ends-early : (j : ℕ) → j < m → month_last c (k + j) < exposed_to c e
    ends-early j h =
        let l = last-next c ok.bcd-date (k + j) (omega (tests, r.low)) in
        let u = starts-rise c ok.bcd-date (k + j + 1) (m - (j + 1)) (omega tests) in
        let e1 : k + j + 1 + (m - (j + 1)) ≡ k + m = omega tests in
        let v : month_first c (k + j + 1) + 28 * (m - (j + 1)) ≤ month_first c (k + m) = rw e1 at u in
        omega (tests, r.reaches)

    starts-late : (j : ℕ) → 0 < j → b ≤ month_first c (k + j)
    unfolding exposed_from
    starts-late j h =
        let l = last-next c ok.bcd-date k r.low in
        let u = starts-rise c ok.bcd-date (k + 1) (j - 1) (omega tests) in
        let e1 : k + 1 + (j - 1) ≡ k + j = omega tests in
        let v : month_first c (k + 1) + 28 * (j - 1) ≤ month_first c (k + j) = rw e1 at u in
        let f : max (bcd_day c) b ≤ month_last c k = r.holds-f in
        omega tests

    -- what the span says of its month j
    pub month_u_is : (j : ℕ) → j < suc m → month_u c b e (month_first c (k + j)) (month_last c (k + j)) ≡ span_u (run_span c b e k m) j
    unfolding span_u
    month_u_is j h =
        is-pick (eqb (j + 1) (suc m)) (λ q. let e1 : j ≡ m = omega tests in rw e1) (λ q. U-full (k + j) (ends-early j (omega tests)))

    pub month_b_is : (j : ℕ) → month_b b (month_first c (k + j)) (month_last c (k + j)) ≡ span_b (run_span c b e k m) j
    unfolding span_b
    month_b_is j =
        is-pick (eqb j 0) (λ q. let e1 : k + j ≡ k = omega tests in rw e1) (λ q. B-none b (month_first c (k + j)) (month_last c (k + j)) (starts-late j (omega tests)))

    pub month-category : (j : ℕ) → j < suc m
        → closing_category c b e (month_first c (k + j)) (month_last c (k + j)) ≡ span_category (run_span c b e k m) j
    unfolding span_category
    month-category j h =
        is-pick (eqb (j + 1) (suc m))
        (λ q. let e1 : j ≡ m = omega tests in rw e1)
        (λ q. category-none (k + j) (ends-early j (omega tests)))

    pub month-thirtieths : (j : ℕ) → j < suc m → thirtieths (month_record c b e (k + j)) ≡ span_thirtieths (run_span c b e k m) j
    unfolding span_thirtieths month_record
    month-thirtieths j h = ap₂ (λ (u v : ℕ). sub_ℕ u v) (month_u_is j h) (month_b_is j)

    closings-run : (w : ℕ → ℕ → ℕ) (n i : ℕ) → i + n ≡ m
        → closings w (run c b e (k + i) (suc n))
        ≡ pick (eqb (run_span c b e k m).category 0) 0 (w (first_duration c + (k - 1) + m) (run_span c b e k m).category)
    unfolding closings run month_record
    closings-run w zero i h =
        let e1 : i ≡ m = omega tests in
        let e2 : first_duration c + (k + m - 1) ≡ first_duration c + (k - 1) + m = omega (tests, r.low) in
        rw (e1, e2) (omega tests)
    closings-run w (suc n) i h =
        let e1 : suc (k + i) ≡ k + suc i = omega tests in
        rw (category-none (k + i) (ends-early i (omega tests)), e1)
        (omega (tests, closings-run w n (suc i) (omega tests)))

-- a statement of the records of a sound claim in a window holds if it holds of none, and of the records of each run of claim months
pub by_runs : (c : Claim) → Sound c → (b e : ℕ) → e ≤ last_day_number → (P : List MonthRecord → Type 0) → P []
    → ((k m : ℕ) → Runs c b e k m → P (run c b e k (suc m))) → P (month_records c b e)
by_runs c ok b e h P none some =
    by (leb (exposed_from c b) (exposed_to c e)) (λ _. P (month_records c b e))
    (λ q.
    let fl = leb-true (exposed_from c b) (exposed_to c e) q in
    let s = runs c ok b e h fl in
    subst⁻¹ P (runs-records c ok b e s.0 s.1 fl s.2) (some s.0 s.1 s.2))
    (λ q. subst⁻¹ P (records-none c ok b e (leb-false (exposed_from c b) (exposed_to c e) q)) none)

-- the span's sums are the records' sums
abbrev pub SameWeighted : (ℕ → ℤ) → List MonthRecord → Type 0
SameWeighted w rs = weighted w rs ≡ span_weighted w (span_of rs) (span_of rs).months

abbrev pub SameClosings : (ℕ → ℕ → ℕ) → List MonthRecord → Type 0
SameClosings w rs = closings w rs ≡ span_closing w (span_of rs)

weighted-none : (w : ℕ → ℤ) → SameWeighted w []
unfolding weighted span_weighted span_of sum_to
weighted-none w = refl

closings-none : (w : ℕ → ℕ → ℕ) → SameClosings w []
unfolding closings span_closing span_of
closings-none w = refl

weighted-some : (c : Claim) → Sound c → (b e : ℕ) (w : ℕ → ℤ) (k m : ℕ) → Runs c b e k m → SameWeighted w (run c b e k (suc m))
unfolding span_weighted
weighted-some c ok b e w k m r =
    rw (span_run c b e k m)
    (run-weighted c b e w (suc m) k r.low
    ∙ sum_same _ _ (suc m)
    (λ j l.
    ap (λ (x : ℤ). w (first_duration c + (k - 1) + j) *ℤ x) (month-thirtieths c ok b e k m r j l)))

closings-some : (c : Claim) → Sound c → (b e : ℕ) (w : ℕ → ℕ → ℕ) (k m : ℕ) → Runs c b e k m → SameClosings w (run c b e k (suc m))
unfolding span_closing
closings-some c ok b e w k m r =
    let e1 : suc m - 1 ≡ m = omega tests in
    rw (span_run c b e k m, e1) (rw (add-zero k) at (closings-run c ok b e k m r w m 0 (omega tests)))

pub span-weighted : (c : Claim) → Sound c → (b e : ℕ) → e ≤ last_day_number → (w : ℕ → ℤ) → SameWeighted w (month_records c b e)
span-weighted c ok b e h w = by_runs c ok b e h (SameWeighted w) (weighted-none w) (weighted-some c ok b e w)

pub span-closings : (c : Claim) → Sound c → (b e : ℕ) → e ≤ last_day_number → (w : ℕ → ℕ → ℕ) → SameClosings w (month_records c b e)
span-closings c ok b e h w = by_runs c ok b e h (SameClosings w) (closings-none w) (closings-some c ok b e w)

pub b_high : (b s p : ℕ) → month_b b s p ≤ 30
unfolding month_b
b_high b s p = by (leb b s) (λ y. pick y 0 (30 - (p - b + 1)) ≤ 30) (λ _. omega tests) (λ _. omega tests)

closing_u-high : (c : Claim) (s p : ℕ) → closing_u c s p ≤ 30
unfolding closing_u
closing_u-high c s p = below (eqb (category c) 1 || eqb (category c) 2) (leb 27 c.termination.day)
  where
    below : (x y : Bool) → pick x 30 (pick y (30 - (p - termination_day c)) (min 30 (termination_day c - s + 1))) ≤ 30
    below true y = omega tests
    below false true = omega tests
    below false false = omega tests

pub u_high : (c : Claim) (b e s p : ℕ) → month_u c b e s p ≤ 30
unfolding month_u
u_high c b e s p = below (ltb p (exposed_to c e)) (closed_in c b e)
  where
    below : (x y : Bool) → pick x 30 (pick y (closing_u c s p) (30 - (p - exposed_to c e))) ≤ 30
    below true y = omega tests
    below false true = closing_u-high c s p
    below false false = omega tests

pub category_high : (c : Claim) → Sound c → (b e s p : ℕ) → closing_category c b e s p ≤ 5
unfolding closing_category
category_high c ok b e s p =
    let t = termination_day c in
    by (closed_in c b e && leb s t && leb t p) (λ y. pick y (category c) 0 ≤ 5)
    (λ q.
    (code-range c ok
    (closed_of c b e (and_left (closed_in c b e) (leb s t) (and_left (closed_in c b e && leb s t) (leb t p) q))).0).1)
    (λ _. omega tests)

pub first-duration : (c : Claim) → Sound c → (2 ≤ first_duration c) × (first_duration c ≤ 1827)
unfolding first_duration ep
first-duration c ok =
    let l = day-last c.bcd ok.bcd-date in
    let p : 15 ≤ bcd_day c - day_number c.disability = ok.ep-low in
    omega tests

bounds-none : SpanBounds (span_of [])
unfolding span_of
bounds-none =
    record {
      months_high = omega tests;
      first_low = λ h. omega tests;
      first_high = omega tests;
      before_high = omega tests;
      through_high = omega tests;
      category_high = omega tests;
      closing_months = λ h. omega tests;
    }

bounds-some : (c : Claim) → Sound c → (b e k m : ℕ) → Runs c b e k m → SpanBounds (span_of (run c b e k (suc m)))
bounds-some c ok b e k m r =
    rw (span_run c b e k m)
    (record {
      months_high = omega (tests, r.low, r.high);
      first_low = λ h. omega (tests, (first-duration c ok).0);
      first_high = omega (tests, (first-duration c ok).1, r.high);
      before_high = b_high b (month_first c k) (month_last c k);
      through_high = u_high c b e (month_first c (k + m)) (month_last c (k + m));
      category_high = category_high c ok b e (month_first c (k + m)) (month_last c (k + m));
      closing_months = λ h. omega tests;
    })

pub span-bounds : (c : Claim) → Sound c → (b e : ℕ) → e ≤ last_day_number → SpanBounds (span_of (month_records c b e))
span-bounds c ok b e h = by_runs c ok b e h (λ (rs : List MonthRecord). SpanBounds (span_of rs)) bounds-none (bounds-some c ok b e)

-- the thirtieths of a span's month are at most 30 in size
pub thirtieths-size : (sp : Span) (j : ℕ) → SpanBounds sp → nat_abs (span_thirtieths sp j) ≤ 30
unfolding span_thirtieths span_u span_b
thirtieths-size sp j h =
    size-sub (span_u sp j) (span_b sp j) 30 (by (eqb (j + 1) sp.months) (λ y. pick y sp.through.0 30 ≤ 30) (λ y. h.through_high) (λ y. omega tests))
    (by (eqb j 0) (λ y. pick y sp.before.0 0 ≤ 30) (λ y. h.before_high) (λ y. omega tests))
