-- The closings of a study: a claim's share has one of them at the most, in one group under one category; so they are no more than the claims taken.
-- Assumes nothing.
use Prim.Native.Nat.{ℕ, zero, suc, ◌+◌, ◌-◌, ◌*◌, ◌≤◌, ◌<◌}
use mathlib.Core.Path.{◌≡◌, refl, ap, ◌∙◌}
use mathlib.Core.Bool.{Bool, true, ◌&&◌, and-eq-true_iff}
use mathlib.Core.List.{List, [], ◌∷◌}
use lib.ListN.{length}
use lib.Dec.{leb, ltb, eqb}
use lib.IntN.{ℤ, pos, nat_abs, ◌+ℤ◌, ◌*ℤ◌}
use borrow.Author.Tests.{eqb-true, le-leb, lt-ltb}
use Rattle.basics.specs.Pick.{pick}
use Rattle.basics.proofs.Tests.{tests, by}
use Rattle.basics.proofs.Integers.{size-sum}
use Rattle.calendar.specs.declared.Date.{Date}
use Rattle.claim_months.specs.declared.Claim.{Claim}
use Rattle.claim_months.specs.declared.Window.{Window}
use Rattle.claim_months.specs.Claim.{category, weight}
use Rattle.claim_months.specs.Exposure.{MonthRecord, month_records, closed_in}
use Rattle.claim_months.proofs.Sound.{Sound, sound}
use Rattle.claim_months.proofs.Closing.{closings-value, closing_duration}
use Rattle.claim_months.proofs.DateWindows.{windowed}
use Rattle.rates.specs.Rates.{recovery_rate, death_rate, group_of}
use Rattle.rates.specs.declared.Kind.{Kind}
use Rattle.study.specs.declared.Study.{Study}
use Rattle.study.specs.Sums.{group_at, column_at, times_at, sum_at, none, plus}
use Rattle.study.specs.Study.{count_in_group, closing_count, figure, record_sums, share_of, sum_over, study_of, fresh, opened_with, opened, own_refusal, accepted}
use Rattle.study.specs.design.PreparedAdding.{add_check_with, share_with, added_with, lent_study}
use Rattle.study.specs.Closings.{closed_under, group_closings, all_closings, ClosedOnce, Closings}
use Rattle.study.proofs.Algebra.{at, each_at, none-at}
use Rattle.study.proofs.Places.{a-count}
use Rattle.study.proofs.Capacity.{accepted-sound, records-at}
use Rattle.study.proofs.LentAdding.{taken-passed}
use Rattle.std.specs.Prelude.{Result}

-- a place of the first set has a group and a column
abbrev known : ℕ → ℕ → Bool
known g x = leb 1 g && leb g 5 && ltb x 8

record Place (g x : ℕ) : Type 0 where
  first : 8 * (g - 1) + x < 40
  group : group_at (8 * (g - 1) + x) ≡ g
  column : column_at (8 * (g - 1) + x) ≡ x

place-of : (g x : ℕ) → known g x ≡ true → Place g x
place-of g x q =
    let t = simp and-eq-true_iff at q in
    record { first = omega tests; group = omega tests; column = omega tests }

one_time : (m : ℕ) → pos 1 *ℤ pos m ≡ pos m
one_time m = ap pos (omega tests)

-- a closing count of the sums over some month records
count-at : (recovery death : ℕ → ℤ) (n : ℕ) (rs : List MonthRecord) (g x : ℕ) → 1 ≤ g → g ≤ 5 → 1 ≤ x → x ≤ 5
    → sum_at (record_sums recovery death n rs) g x ≡ pos (closing_count g x rs)
unfolding sum_at times_at figure
count-at recovery death n rs g x g1 g5 x1 x5 =
    let q : known g x ≡ true = rw (le-leb 1 g g1, le-leb g 5 g5, lt-ltb x 8 (omega tests)) refl in
    let p = place-of g x q in
    let k = 8 * (g - 1) + x in
    let r = records-at recovery death n rs k (omega (tests, p.first)) in
    rw q (rw (lt-ltb k 40 p.first, p.group, p.column, a-count x x1 x5) at r ∙ one_time (closing_count g x rs))

-- a number that is none of the five groups has no sums
pub no-group : (s : List ℤ) (g x : ℕ) → (1 ≤ g → 5 < g) → sum_at s g x ≡ pos 0
unfolding sum_at
no-group s g x h =
    by (known g x) (λ t. pick t (at s (8 * (g - 1) + x)) (pos 0) ≡ pos 0)
    (λ q.
    let t = simp and-eq-true_iff at q in
    let low : 1 ≤ g = omega tests in
    let high = h low in
    absurd (omega (tests, high)))
    (λ q. refl)

one-group : (f : ℕ → ℕ) (g : ℕ) → 1 ≤ g → g ≤ 5 → f g ≤ f 1 + f 2 + f 3 + f 4 + f 5
one-group f zero low high = absurd (omega tests)
one-group f (suc zero) low high = omega tests
one-group f (suc (suc zero)) low high = omega tests
one-group f (suc (suc (suc zero))) low high = omega tests
one-group f (suc (suc (suc (suc zero)))) low high = omega tests
one-group f (suc (suc (suc (suc (suc zero))))) low high = omega tests
one-group f (suc (suc (suc (suc (suc (suc g)))))) low high = absurd (omega tests)

-- no group has more closings than all five together
pub group-of-all : (s : List ℤ) (g : ℕ) → group_closings s g ≤ all_closings s
unfolding all_closings
group-of-all s g =
    by (leb 1 g) (λ _. group_closings s g ≤ total)
    (λ a. by (leb g 5) (λ _. group_closings s g ≤ total) (λ b. one-group (group_closings s) g (omega tests) (omega tests)) (λ b. empty (λ _. omega tests)))
    (λ a. empty (λ low. absurd (omega tests)))
  where
    total : ℕ
    total = group_closings s 1 + group_closings s 2 + group_closings s 3 + group_closings s 4 + group_closings s 5

    empty : (1 ≤ g → 5 < g) → group_closings s g ≤ total
    empty h = unfold group_closings in rw (no-group s g 1 h, no-group s g 2 h, no-group s g 3 h, no-group s g 4 h, no-group s g 5 h) (omega tests)

-- of the numbers up to n one is y at the most
unfoldable ones : ℕ → ℕ → ℕ
ones y zero = 0
ones y (suc n) = ones y n + pick (eqb y (suc n)) 1 0

none_yet : (y n : ℕ) → n < y → ones y n ≡ 0
unfolding ones
none_yet y zero h = refl
none_yet y (suc n) h =
    by (eqb y (suc n)) (λ t. ones y n + pick t 1 0 ≡ 0) (λ q. absurd (omega tests)) (λ q. omega (tests, none_yet y n (omega tests)))

at_most_one : (y n : ℕ) → ones y n ≤ 1
unfolding ones
at_most_one y zero = omega tests
at_most_one y (suc n) =
    by (eqb y (suc n)) (λ t. ones y n + pick t 1 0 ≤ 1) (λ q. omega (tests, none_yet y n (omega tests))) (λ q. omega (tests, at_most_one y n))

abbrev under_any : (ℕ → ℕ) → ℕ
under_any f = f 1 + f 2 + f 3 + f 4 + f 5

one_of-five : (y : ℕ) → under_any (λ x. pick (eqb y x) 1 0) ≤ 1
unfolding ones
one_of-five y = let h : ones y 5 ≤ 1 = at_most_one y 5 in omega (tests, h)

-- a sound claim's closings over the month records of a window: one of all groups and categories at the most
module _ (c : Claim) (ok : Sound c) (b e : ℕ) where
  closing-is : (g x : ℕ) → closing_count g x (month_records c b e)
      ≡ pick (closed_in c b e) (pick (eqb (group_of (closing_duration c)) g) 1 0 * pick (eqb (category c) x) 1 0) 0
  unfolding closing_count count_in_group
  closing-is g x = closings-value c ok (λ d y. count_in_group g d * pick (eqb y x) 1 0) b e

  -- in each group as many as the group has of the closing month
  in-group : (g : ℕ) → under_any (λ x. closing_count g x (month_records c b e)) ≤ pick (eqb (group_of (closing_duration c)) g) 1 0
  in-group g =
      let h = eqb (group_of (closing_duration c)) g in
      let y = category c in
      let one = one_of-five y in
      rw (closing-is g 1, closing-is g 2, closing-is g 3, closing-is g 4, closing-is g 5)
      (by (closed_in c b e) (λ t. under_any (λ x. pick t (pick h 1 0 * pick (eqb y x) 1 0) 0) ≤ pick h 1 0)
      (λ _. by h (λ t. under_any (λ x. pick t 1 0 * pick (eqb y x) 1 0) ≤ pick t 1 0) (λ _. omega (tests, one)) (λ _. omega tests)) (λ _. omega tests))

  closes-once : under_any (λ g. under_any (λ x. closing_count g x (month_records c b e))) ≤ 1
  closes-once =
      let h = one_of-five (group_of (closing_duration c)) in
      omega (tests, h, in-group 1, in-group 2, in-group 3, in-group 4, in-group 5)

  share-closings : (recovery death : ℕ → ℤ) (n : ℕ) → all_closings (record_sums recovery death n (month_records c b e)) ≤ 1
  unfolding all_closings group_closings
  share-closings recovery death n =
      let m : (g : ℕ) → 1 ≤ g → g ≤ 5 → group_closings (record_sums recovery death n (month_records c b e)) g ≡ under_any (λ x. closing_count g x (month_records c b e)) = λ g g1 g5.
      let k = count-at recovery death n (month_records c b e) g in
      rw (k 1 g1 g5 (omega tests) (omega tests), k 2 g1 g5 (omega tests) (omega tests), k 3 g1 g5 (omega tests) (omega tests), k 4 g1 g5 (omega tests) (omega tests), k 5 g1 g5 (omega tests) (omega tests)) refl in
      let o = closes-once in
      rw (m 1 (omega tests) (omega tests), m 2 (omega tests) (omega tests), m 3 (omega tests) (omega tests), m 4 (omega tests) (omega tests), m 5 (omega tests) (omega tests)) o

-- a claim's share has one, where it closes, in a window in which it is closed
pub share-count : (w : Window) (rates : List ℕ) (c : Claim) → Sound c → (g x : ℕ) → 1 ≤ g → g ≤ 5 → 1 ≤ x → x ≤ 5
    → sum_at (share_of w rates c) g x
    ≡ pos (pick (closed_in c w.first.0 w.last.0) (pick (eqb (group_of (closing_duration c)) g) 1 0 * pick (eqb (category c) x) 1 0) 0)
unfolding share_of
share-count w rates c ok g x g1 g5 x1 x5 =
    count-at (λ d. pos (recovery_rate rates c.cell d)) (λ d. pos (death_rate rates c.cell d)) (weight c) (month_records c w.first.0 w.last.0) g x g1 g5 x1 x5
    ∙ ap pos (closing-is c ok w.first.0 w.last.0 g x)

-- two lists of sums together have no more than each of them
plus-under : (a b : List ℤ) (g x : ℕ) → closed_under (plus a b) g x ≤ closed_under a g x + closed_under b g x
unfolding sum_at
plus-under a b g x =
    let k = 8 * (g - 1) + x in
    by (known g x) (λ t. nat_abs (pick t (at (plus a b) k) (pos 0)) ≤ nat_abs (pick t (at a k) (pos 0)) + nat_abs (pick t (at b k) (pos 0)))
    (λ q. rw (each_at ◌+ℤ◌ a b k (omega (tests, (place-of g x q).first))) (size-sum (at a k) (at b k))) (λ q. omega tests)

plus-group : (a b : List ℤ) (g : ℕ) → group_closings (plus a b) g ≤ group_closings a g + group_closings b g
unfolding group_closings
plus-group a b g =
    let h = plus-under a b g in
    omega (tests, h 1, h 2, h 3, h 4, h 5)

plus-closings : (a b : List ℤ) → all_closings (plus a b) ≤ all_closings a + all_closings b
unfolding all_closings
plus-closings a b =
    let h = plus-group a b in
    omega (tests, h 1, h 2, h 3, h 4, h 5)

none_under : (g x : ℕ) → closed_under none g x ≡ 0
unfolding sum_at
none_under g x =
    by (known g x) (λ t. nat_abs (pick t (at none (8 * (g - 1) + x)) (pos 0)) ≡ 0)
    (λ q. rw (none-at (8 * (g - 1) + x) (omega (tests, (place-of g x q).first))) refl) (λ q. refl)

none-closings : all_closings none ≡ 0
unfolding all_closings group_closings
none-closings =
    let z = none_under in
    omega (tests, z 1 1, z 1 2, z 1 3, z 1 4, z 1 5, z 2 1, z 2 2, z 2 3, z 2 4, z 2 5, z 3 1, z 3 2, z 3 3, z 3 4, z 3 5, z 4 1, z 4 2, z 4 3, z 4 4, z 4 5, z 5 1, z 5 2, z 5 3, z 5 4, z 5 5)

fresh-once : (w : Window) → ClosedOnce (fresh w)
unfolding fresh
fresh-once w = omega (tests, none-closings)

opened-once : (b e : Date) → ClosedOnce (opened b e).study
unfolding opened opened_with
opened-once b e =
    windowed b e (λ (m : Result Window ℕ). ClosedOnce (opened_with m).study) (λ d. fresh-once _) (λ d. fresh-once _)

-- so a claim's share has one at the most
table-once : (kind : Kind) (w : Window) (table : List ℕ) (c : Claim) → Sound c → all_closings (share_with kind w table c) ≤ 1
unfolding share_with
table-once kind w table c ok = share-closings c ok w.first.0 w.last.0 _ _ (weight c)

share-once : (w : Window) (rates : List ℕ) (c : Claim) → Sound c → all_closings (share_of w rates c) ≤ 1
unfolding share_of
share-once w rates c ok = share-closings c ok w.first.0 w.last.0 _ _ (weight c)

one-more : (s : Study) (share : List ℤ) → ClosedOnce s → all_closings share ≤ 1 → all_closings (plus s.sums share) ≤ s.taken + 1
one-more s share h one = omega (tests, h, one, plus-closings s.sums share)

added-once : (kind : Kind) (s : Study) (c : Claim) (table : List ℕ) → ClosedOnce s → ClosedOnce (added_with kind s c table).study
unfolding added_with
added-once kind s c table h =
    let n = add_check_with kind s c table in
    let share = share_with kind s.window table c in
    by (eqb n 0) (λ t. ClosedOnce (pick t (lent_study s.window (s.taken + 1) (plus s.sums share)) s))
    (λ q. one-more s share h (table-once kind s.window table c (sound c (taken-passed kind s c table (eqb-true n 0 q)).claim))) (λ q. h)

built-once : (w : Window) (rates : List ℕ) (claims : List Claim)
    → all_closings (sum_over plus none (share_of w rates) (accepted rates claims)) ≤ length (accepted rates claims)
unfolding sum_over accepted
built-once w rates [] = omega (tests, none-closings)
built-once w rates (c ∷ cs) =
    let rest = sum_over plus none (share_of w rates) (accepted rates cs) in
    by (eqb (own_refusal rates c) 0)
    (λ t. all_closings (sum_over plus none (share_of w rates) (pick t (c ∷ accepted rates cs) (accepted rates cs))) ≤ length (pick t (c ∷ accepted rates cs) (accepted rates cs)))
    (λ q.
    let one = share-once w rates c (accepted-sound rates c (eqb-true (own_refusal rates c) 0 q)) in
    omega (tests, built-once w rates cs, plus-closings (share_of w rates c) rest, one))
    (λ q. built-once w rates cs)

pub closings : Closings
unfolding study_of
closings = record { opening = opened-once; adding = added-once; studies = built-once }
