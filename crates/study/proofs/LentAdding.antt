-- Adding to lent sums, told whether they are within their bounds, is adding; and what one claim leaves of the room for several.
-- Assumes nothing.
use Prim.Native.Nat.{ℕ, suc, ◌+◌, ◌-◌, ◌*◌, ◌≤◌, ◌<◌}
use mathlib.Core.Path.{◌≡◌, refl, sym, ap, ◌∙◌, fun_ext}
use mathlib.Core.Bool.{Bool, true, false, ◌&&◌, ◌||◌}
use mathlib.Core.List.{List}
use lib.Dec.{ltb, eqb}
use lib.IntN.{ℤ, nat_abs, ◌+ℤ◌}
use native.Mathlib.Nat.{mul-add, mul-le-mul_left}
use borrow.Author.Tests.{le-leb, ltb-true, eqb-true}
use Rattle.basics.specs.Pick.{pick}
use Rattle.basics.specs.Limits.{most_claims, most_thirtieths, most_expected, most_benefit}
use Rattle.basics.specs.Checks.{check, ◌then◌, refuse_full}
use Rattle.basics.specs.Tables.{all_at_most}
use Rattle.basics.proofs.Tests.{tests, by, and_left, and_right}
use Rattle.basics.proofs.Checks.{then-passed, check-passed}
use Rattle.basics.proofs.Integers.{size-sum}
use Rattle.basics.proofs.Tables.{table_same}
use Rattle.claim_months.specs.declared.Claim.{Claim}
use Rattle.claim_months.specs.Claim.{claim_check}
use Rattle.claim_months.specs.Windows.{window_check}
use Rattle.rates.specs.declared.Kind.{Kind}
use Rattle.rates.specs.design.Prepared.{table_check_of}
use Rattle.study.specs.declared.Study.{Study}
use Rattle.study.specs.Sums.{column_at, times_at, each, plus, column_bound, in_bounds, all_in_bounds, within}
use Rattle.study.specs.Study.{has_room, room_check}
use Rattle.study.specs.design.PreparedAdding.{share_with, add_check_with, added_with, lent_study}
use Rattle.study.specs.design.LentAdding.{spare_bound, room_for, guarded_sum, guarded_plus, add_check_told, added_to_lent, LentAdding}
use Rattle.study.proofs.Algebra.{at, each_at}
use Rattle.study.proofs.Places.{by_column}
use Rattle.study.proofs.InBounds.{in_size, in_count, in_is, place_bound, all-at, all-is, all-wider, column-most}
use Rattle.study.proofs.Capacity.{size_in, Sized, plus-count, table-sized}
use Rattle.study.proofs.WithSpan.{answer}

-- sums within the bounds of refusal 9 are not guarded
guarded-sum : (k : ℕ) (x y : ℤ) → in_bounds (place_bound column_bound k) (column_at k) x ≡ true → guarded_sum k x y ≡ x +ℤ y
unfolding guarded_sum
guarded-sum k x y h =
    let s = in_size (place_bound column_bound k) (column_at k) x h in
    let b : place_bound column_bound k ≤ times_at most_benefit k * most_expected = mul-le-mul_left (times_at most_benefit k) (column-most (column_at k)) in
    rw (le-leb (nat_abs x) (times_at most_benefit k * most_expected) (omega tests)) refl

pub guarded-plus : (a b : List ℤ) → within a ≡ true → guarded_plus a b ≡ plus a b
unfolding guarded_plus each
guarded-plus a b h = table_same 80 _ _ (λ k l. guarded-sum k (at a k) (at b k) (all-at column_bound a h k l))

-- room for none is check 9's
spare-none : (column : ℕ) → spare_bound 0 column ≡ column_bound column
unfolding spare_bound column_bound
spare-none column = refl

room_none : (s : List ℤ) → room_for 0 s ≡ within s
room_none s = ap (λ (b : ℕ → ℕ). all_in_bounds b s) (fun_ext spare-none)

-- fewer claims need less room
spare-fewer : (n m column : ℕ) → m ≤ n → spare_bound n column ≤ spare_bound m column
unfolding spare_bound
spare-fewer n m column h =
    by_column column
    (λ s t _. pick s (most_claims - n) (pick t (most_thirtieths - 54000 * n) (most_expected - 240000000000000 * n))
    ≤ pick s (most_claims - m) (pick t (most_thirtieths - 54000 * m) (most_expected - 240000000000000 * m)))
    (λ _ _. omega tests) (λ _. omega tests) (omega tests) (omega tests)

room-fewer : (n m : ℕ) (s : List ℤ) → m ≤ n → room_for n s ≡ true → room_for m s ≡ true
room-fewer n m s h r = all-wider (spare_bound n) (spare_bound m) s (λ column. spare-fewer n m column h) r

room_within : (n : ℕ) (s : List ℤ) → room_for n s ≡ true → within s ≡ true
room_within n s r = sym (room_none s) ∙ room-fewer n 0 s (omega tests) r

-- a claim with rates of 32 bits takes no more of the room than one claim's
one_less : (n column : ℕ) → suc n ≤ 100 → spare_bound (suc n) column + size_in 231928233930000 column * 1 ≤ spare_bound n column
unfolding spare_bound size_in
one_less n column h =
    by_column column
    (λ s t _. pick s (most_claims - suc n) (pick t (most_thirtieths - 54000 * suc n) (most_expected - 240000000000000 * suc n))
    + pick s 1 (pick t 54000 231928233930000) * 1
    ≤ pick s (most_claims - n) (pick t (most_thirtieths - 54000 * n) (most_expected - 240000000000000 * n)))
    (λ _ _. omega tests) (λ _. omega tests) (omega tests) (omega tests)

spare-kept : (n : ℕ) (a b : List ℤ) → suc n ≤ 100 → Sized 231928233930000 1 b → room_for (suc n) a ≡ true → room_for n (plus a b) ≡ true
spare-kept n a b h z r =
    all-is (spare_bound n) (plus a b)
    (λ k l.
    let t = times_at most_benefit k in
    let column = column_at k in
    let before = all-at (spare_bound (suc n)) a r k l in
    let x = in_size (place_bound (spare_bound (suc n)) k) column (at a k) before in
    let y = z.size k l in
    let s = size-sum (at a k) (at b k) in
    let e = mul-add t (spare_bound (suc n) column) (size_in 231928233930000 column * 1) in
    let u : t * (spare_bound (suc n) column + size_in 231928233930000 column * 1) ≤ t * spare_bound n column = mul-le-mul_left t (one_less n column h) in
    rw (each_at ◌+ℤ◌ a b k l)
    (in_is (place_bound (spare_bound n) k) column (at a k +ℤ at b k) (omega tests)
    (λ q. plus-count (at a k) (at b k) (in_count (place_bound (spare_bound (suc n)) k) column (at a k) before q) (z.count k l q))))

-- what a claim that is taken has passed
pub record AllPassed (kind : Kind) (s : Study) (c : Claim) (table : List ℕ) : Type 0 where
  pub claim : claim_check c ≡ 0
  pub rates : table_check_of kind table c.cell ≡ 0
  pub few : s.taken < most_claims
  pub sums : within s.sums ≡ true

module _ (kind : Kind) (s : Study) (c : Claim) (table : List ℕ) where
  pub taken-passed : add_check_with kind s c table ≡ 0 → AllPassed kind s c table
  unfolding add_check_with room_check has_room
  taken-passed e =
      let w = then-passed (window_check s.window.first.0 s.window.last.0) _ e in
      let k = then-passed (claim_check c) _ w.1 in
      let r = then-passed (table_check_of kind table c.cell) (room_check s) k.1 in
      let few = ltb s.taken most_claims in
      let h = check-passed (few && within s.sums) refuse_full (omega tests) r.1 in
      record {
        claim = k.0;
        rates = r.0;
        few = ltb-true s.taken most_claims (and_left few (within s.sums) h);
        sums = and_right few (within s.sums) h;
      }

  -- told what is so, the checks are those of adding, and so is the rest
  same_check : (room : Bool) → room ≡ within s.sums → add_check_told room kind s c table ≡ add_check_with kind s c table
  unfolding add_check_told add_check_with room_check has_room
  same_check room e =
      ap (λ (t : Bool). window_check s.window.first.0 s.window.last.0 then claim_check c then table_check_of kind table c.cell then check (ltb s.taken most_claims && t) refuse_full) e

  abbrev number : ℕ
  number = add_check_with kind s c table

  abbrev share : List ℤ
  share = share_with kind s.window table c

  -- the study with one claim more
  abbrev one_more : List ℤ → Study
  one_more sums = lent_study s.window (s.taken + 1) sums

  told : (room : Bool) → room ≡ within s.sums → added_to_lent room kind table c s ≡ added_with kind s c table
  unfolding added_to_lent added_with
  told room e =
      rw (same_check room e)
      (by (eqb number 0)
      (λ t. answer number (pick t (one_more (guarded_plus s.sums share)) s) ≡ answer number (pick t (one_more (plus s.sums share)) s))
      (λ q. ap (λ (x : List ℤ). answer number (one_more x)) (guarded-plus s.sums share (taken-passed (eqb-true number 0 q)).sums))
      (λ q. refl))

  -- what is left of the room
  kept : (n : ℕ) → suc n ≤ 100 → all_at_most 4294967295 table ≡ true → room_for (suc n) s.sums ≡ true → room_for n (added_with kind s c table).study.sums ≡ true
  unfolding added_with
  kept n h small r =
      by (eqb number 0) (λ t. room_for n (pick t (one_more (plus s.sums share)) s).sums ≡ true)
      (λ q. spare-kept n s.sums share h (table-sized kind s.window table c (taken-passed (eqb-true number 0 q)).claim small) r)
      (λ q. room-fewer (suc n) n s.sums (omega tests) r)

pub lent-adding : LentAdding
lent-adding =
    record {
      told = λ kind table c s room e. told kind s c table room e;
      room_none = room_none;
      room_less = λ n s h r. room_within n s r;
      room_kept = λ kind table c s n h small r. kept kind s c table n h small r;
    }

-- where the sums are looked at only if it isn't known that they have room, the answer is what a look would give
pub spare-told : (n : ℕ) (s : List ℤ) (spare room : Bool) → (spare ≡ true → room_for n s ≡ true) → room ≡ (spare || within s) → room ≡ within s
spare-told n s true room f e = e ∙ sym (room_within n s (f refl))
spare-told n s false room f e = e
