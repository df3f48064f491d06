-- What a join tests and what it answers: the sums of both together within bounds, and the study of a join that passes its checks.
-- Assumes nothing.
use Prim.Native.Nat.{ℕ, ◌+◌, ◌*◌, ◌/◌, ◌%◌, ◌≤◌, ◌<◌}
use mathlib.Core.Path.{◌≡◌, refl, sym, ap, ◌∙◌}
use mathlib.Core.Bool.{Bool, true, false, ◌&&◌}
use mathlib.Core.List.{List}
use lib.Dec.{leb}
use lib.IntN.{ℤ, nat_abs, ◌+ℤ◌}
use lib.Signed.{non_neg}
use mir.Syntax.{w64}
use mir.Val.{SFits, to_z, of_z}
use borrow.Author.Tests.{leb-true, ne_eqb}
use Rattle.std.proofs.Math.Bool.{and-true}
use Rattle.basics.specs.Pick.{pick}
use Rattle.basics.specs.Tables.{every_place}
use Rattle.basics.specs.Checks.{check, ◌then◌, refuse_other_window, refuse_full}
use Rattle.basics.specs.Refused.{number_of}
use Rattle.basics.specs.declared.refusal.Refusal.{Refusal}
use Rattle.basics.proofs.Refused.{numbered-from-1}
use Rattle.basics.proofs.Tests.{tests, by, and_left, and_right}
use Rattle.basics.proofs.Checks.{then-passed, check-passed}
use Rattle.basics.proofs.Tables.{every-same, every-at, every-is}
use Rattle.basics.proofs.Signed.{Small, result_fits, result-is}
use Rattle.study.specs.declared.Study.{Study}
use Rattle.study.specs.Answers.{Answer}
use Rattle.study.specs.Sums.{column_at, is_count, plus, column_bound, in_bounds, all_in_bounds, within}
use Rattle.study.specs.design.Private.{group_together}
use Rattle.study.specs.Joining.{study_window_check, same_window, join_room, join_check, together, joined}
use Rattle.study.proofs.Algebra.{at, each_at}
use Rattle.study.proofs.InBounds.{place_bound, in_count, all-at, within-high}
use Rattle.study.proofs.Capacity.{plus-count}

-- a further test that passes where it is made
and_picked : (s t u : Bool) → (t ≡ true → u ≡ true) → s ≡ (s && pick t u true)
and_picked s true u h = rw (h refl) (sym (and-true s))
and_picked s false u h = sym (and-true s)

-- the test of two sums at a place: their sum is within its bound
abbrev pub sum_in_bound : List ℤ → List ℤ → ℕ → Bool
sum_in_bound a b k = leb (nat_abs (at a k +ℤ at b k)) (place_bound column_bound k)

-- the tests of ten groups are those of the 80 places
pub groups-together : (a b : List ℤ) → every_place 10 (λ g. group_together a b (8 * g)) ≡ every_place 80 (sum_in_bound a b)
unfolding group_together
groups-together a b =
    let test = sum_in_bound a b in
    let group : ℕ → Bool = λ g. every_place 8 (λ x. test (8 * g + x)) in
    let down : every_place 80 test ≡ true → every_place 10 group ≡ true =
    λ u. every-is 10 group (λ g h. every-is 8 (λ x. test (8 * g + x)) (λ x l. every-at 80 test u (8 * g + x) (omega tests))) in
    let up : every_place 10 group ≡ true → every_place 80 test ≡ true =
    λ u.
    every-is 80 test
    (λ k h.
    let p : k ≡ 8 * (k / 8) + k % 8 = omega tests in
    ap test p ∙ every-at 8 (λ x. test (8 * (k / 8) + x)) (every-at 10 group u (k / 8) (omega tests)) (k % 8) (omega tests)) in
    by (every_place 80 test) (λ t. every_place 80 test ≡ t → every_place 10 group ≡ t) (λ q u. down u)
    (λ q u.
    by (every_place 10 group) (λ t. every_place 10 group ≡ t → t ≡ false) (λ _ v. sym (up v) ∙ u) (λ _ v. refl) refl) refl

-- the sums of two sets of claims are within the bounds together where each sum passes, if each of the two sets is: then no count is below 0
pub sums-within : (a b : List ℤ) → within a ≡ true → within b ≡ true → every_place 80 (sum_in_bound a b) ≡ within (plus a b)
unfolding all_in_bounds in_bounds
sums-within a b p q =
    let n = place_bound column_bound in
    every-same 80 (sum_in_bound a b) _
    (λ k l.
    rw (each_at ◌+ℤ◌ a b k l)
    (and_picked (leb (nat_abs (at a k +ℤ at b k)) (n k)) (is_count (column_at k)) (non_neg (at a k +ℤ at b k))
    (λ u.
    plus-count (at a k) (at b k) (in_count (n k) (column_at k) (at a k) (all-at column_bound a p k l) u)
    (in_count (n k) (column_at k) (at b k) (all-at column_bound b q k l) u))))

-- what a join that passes has room for
pub record Joins (s t : Study) : Type 0 where
  pub few : s.taken + t.taken ≤ 500000
  pub one : within s.sums ≡ true
  pub other : within t.sums ≡ true
  pub sums : within (plus s.sums t.sums) ≡ true

pub joins : (s t : Study) → join_check s t ≡ 0 → Joins s t
unfolding join_check join_room
joins s t h =
    let full = check (join_room s t) refuse_full in
    let other = check (same_window s.window t.window) refuse_other_window in
    let past = (then-passed (study_window_check t) (other then full) (then-passed (study_window_check s) (study_window_check t then other then full) h).1).1 in
    let room = check-passed (join_room s t) refuse_full (omega tests) (then-passed other full past).1 in
    let few = leb (s.taken + t.taken) 500000 in
    let one = within s.sums in
    let two = within t.sums in
    let both = within (plus s.sums t.sums) in
    record {
      few = leb-true (s.taken + t.taken) 500000 (and_left few one (and_left (few && one) two (and_left (few && one && two) both room)));
      one = and_right few one (and_left (few && one) two (and_left (few && one && two) both room));
      other = and_right (few && one) two (and_left (few && one && two) both room);
      sums = and_right (few && one && two) both room;
    }

-- then 64 bits hold each sum of both
module _ (s t : Study) (j : Joins s t) (k : ℕ) (l : k < 80) where
  abbrev x : ℤ
  x = at s.sums k

  abbrev y : ℤ
  y = at t.sums k

  small-one : Small x
  small-one = omega (tests, within-high s.sums j.one k l)

  small-other : Small y
  small-other = omega (tests, within-high t.sums j.other k l)

  small-sum : Small (x +ℤ y)
  small-sum = let h = rw (each_at ◌+ℤ◌ s.sums t.sums k l) at (within-high (plus s.sums t.sums) j.sums k l) in omega (tests, h)

  pub sum-fits : SFits w64 (to_z w64 (of_z w64 x) +ℤ to_z w64 (of_z w64 y))
  sum-fits = result_fits ◌+ℤ◌ x y small-one small-other small-sum

  pub sum-is : to_z w64 (of_z w64 (to_z w64 (of_z w64 x) +ℤ to_z w64 (of_z w64 y))) ≡ x +ℤ y
  sum-is = result-is ◌+ℤ◌ x y small-one small-other small-sum

-- the answers
module _ (s t : Study) where
  pub join-refused : (r : Refusal) → number_of r ≡ join_check s t → ◌≡◌ {A = Answer} (record { refused = number_of r; study = s }) (joined s t)
  unfolding joined
  join-refused r e = rw (← e, ne_eqb (number_of r) 0 (λ z. omega (tests, numbered-from-1 r, z))) refl

  pub join-taken : 0 ≡ join_check s t → (a : List ℤ) → a ≡ plus s.sums t.sums
      → ◌≡◌ {A = Answer} (record { refused = 0; study = record { window = s.window; taken = s.taken + t.taken; sums = a } }) (joined s t)
  unfolding joined together
  join-taken e a p =
      let z : join_check s t ≡ 0 = sym e in
      rw z (λ i. record { refused = 0; study = record { window = s.window; taken = s.taken + t.taken; sums = p i } })
