-- What a withdrawal's checks say of the study and the share: where they pass no number wraps, and the answer is the paper's.
-- Assumes nothing.
use Prim.Native.Nat.{ℕ, ◌-◌, ◌*◌, ◌≤◌, ◌<◌}
use mathlib.Core.Path.{◌≡◌, refl, sym, ap, ◌∙◌}
use mathlib.Core.Bool.{Bool, true, ◌&&◌}
use mathlib.Core.List.{List}
use native.Mathlib.Nat.{mul-le-mul}
use lib.Dec.{leb, ltb}
use lib.IntN.{ℤ, nat_abs, ◌-ℤ◌}
use lib.Signed.{le_z}
use mir.Syntax.{w64}
use mir.Val.{SFits, to_z, of_z}
use borrow.Author.Tests.{ltb-true, ne_eqb}
use Rattle.basics.specs.Pick.{pick}
use Rattle.basics.specs.Limits.{most_benefit}
use Rattle.basics.specs.Checks.{check, ◌then◌, refuse_full}
use Rattle.basics.specs.Tables.{all_at_most}
use Rattle.basics.specs.Refused.{number_of}
use Rattle.basics.specs.declared.refusal.Refusal.{Refusal}
use Rattle.basics.proofs.Refused.{numbered-from-1}
use Rattle.basics.proofs.Tests.{tests, and_left, and_right}
use Rattle.basics.proofs.Checks.{then-passed, then_next, then-fails, then-assoc, check-passed}
use Rattle.basics.proofs.Signed.{Small, result_fits, result-is}
use Rattle.basics.proofs.Tables.{within-list, within-at}
use Rattle.claim_months.specs.declared.Claim.{Claim}
use Rattle.claim_months.specs.declared.Window.{Window}
use Rattle.claim_months.specs.Claim.{claim_check, weight}
use Rattle.claim_months.specs.Windows.{window_check}
use Rattle.rates.specs.declared.Kind.{Kind}
use Rattle.rates.specs.design.Prepared.{table_check_of}
use Rattle.study.specs.declared.Study.{Study}
use Rattle.study.specs.Answers.{Answer}
use Rattle.study.specs.Sums.{column_at, is_count, times_at, none, minus, within}
use Rattle.study.specs.design.PreparedAdding.{share_with, lent_study}
use Rattle.study.specs.design.LentAdding.{added_to_lent}
use Rattle.study.specs.Withdrawing.{withdraw_room, covers}
use Rattle.study.specs.design.PreparedWithdrawing.{can_withdraw_with, withdraw_check_with, withdrawn_with}
use Rattle.study.specs.design.Private.{share_number, small_share, last_checks}
use Rattle.study.proofs.Algebra.{Shaped, at}
use Rattle.study.proofs.Places.{by_column}
use Rattle.study.proofs.InBounds.{times-most, within-high}
use Rattle.study.proofs.Banded.{size-difference}
use Rattle.study.proofs.Capacity.{size_in, Sized, records-shaped, table-sized}
use Rattle.study.proofs.OwnShare.{alone-number, alone-share}

-- whether a place's count covers that of a share
abbrev pub covered_at : List ℤ → List ℤ → ℕ → Bool
covered_at s share k = pick (is_count (column_at k)) (le_z (at share k) (at s k)) true

-- what a withdrawal that passes the checks 9 and 18 rests on
pub record Withdrawable (taken : ℕ) (s : List ℤ) : Type 0 where
  pub some : 0 < taken
  pub sums : within s ≡ true

pub last-passed : (taken : ℕ) (s share : List ℤ) → 0 ≡ last_checks taken s share → Withdrawable taken s
unfolding last_checks
last-passed taken s share e =
    let few = leb taken 500000 in
    let some = ltb 0 taken in
    let p = then-passed (check (few && within s) refuse_full) _ (sym e) in
    record {
      some = ltb-true 0 taken (and_left some (covers s share) (check-passed (some && covers s share) 18 (omega tests) p.1));
      sums = and_right few (within s) (check-passed (few && within s) 9 (omega tests) p.0);
    }

-- 64 bits hold each sum less that of a small share
module _ (sums share : List ℤ) (w : within sums ≡ true) (s : small_share share ≡ true) (k : ℕ) (l : k < 80) where
  abbrev x : ℤ
  x = at sums k

  abbrev y : ℤ
  y = at share k

  share-high : nat_abs y ≤ 1000000000000000000
  unfolding small_share
  share-high = within-at 1000000000000000000 share k s

  small-sum : Small x
  small-sum = omega (tests, within-high sums w k l)

  small-share : Small y
  small-share = omega (tests, share-high)

  small-after : Small (x -ℤ y)
  small-after = omega (tests, within-high sums w k l, share-high, size-difference x y)

  pub difference-fits : SFits w64 (to_z w64 (of_z w64 x) -ℤ to_z w64 (of_z w64 y))
  difference-fits = result_fits ◌-ℤ◌ x y small-sum small-share small-after

  pub difference-is : to_z w64 (of_z w64 (to_z w64 (of_z w64 x) -ℤ to_z w64 (of_z w64 y))) ≡ x -ℤ y
  difference-is = result-is ◌-ℤ◌ x y small-sum small-share small-after

-- the share of a claim without a refusal is small, with a table of 32-bit numbers
size-most : (column : ℕ) → size_in 231928233930000 column * 1 ≤ 231928233930000
unfolding size_in
size-most column =
    by_column column (λ s t _. pick s 1 (pick t 54000 231928233930000) * 1 ≤ 231928233930000) (λ _ _. omega tests) (λ _. omega tests)
    (omega tests) (omega tests)

sized-small : (s : List ℤ) → Shaped s → Sized 231928233930000 1 s → small_share s ≡ true
unfolding small_share
sized-small s e z =
    within-list 1000000000000000000 s
    (λ k h.
    let size = z.size k (omega tests) in
    let most : times_at most_benefit k * (size_in 231928233930000 (column_at k) * 1) ≤ 200 * 231928233930000 = mul-le-mul (times-most k) (size-most (column_at k)) in
    omega tests)

module _ (kind : Kind) (c : Claim) (w : Window) (table : List ℕ) where
  claim-passed : share_number kind c w table ≡ 0 → claim_check c ≡ 0
  unfolding share_number
  claim-passed e = (then-passed (claim_check c) _ (then-passed (window_check w.first.0 w.last.0) _ e).1).0

  share-small : share_number kind c w table ≡ 0 → all_at_most 4294967295 table ≡ true → small_share (share_with kind w table c) ≡ true
  unfolding share_with
  share-small e small = sized-small (share_with kind w table c) (records-shaped _ _ (weight c) _) (table-sized kind w table c (claim-passed e) small)

-- the answers, where n and x are what adding the claim to no sums answered and left: they are the claim's number and its share
module _ (kind : Kind) (s : Study) (c : Claim) (table : List ℕ) where
  abbrev share : List ℤ
  share = share_with kind s.window table c

  -- the checks are the claim's own and the last two
  checks-are : (n : ℕ) → n ≡ (added_to_lent true kind table c (lent_study s.window 0 none)).refused
      → withdraw_check_with kind s c table ≡ (n then last_checks s.taken s.sums share)
  unfolding withdraw_check_with withdraw_room can_withdraw_with share_number last_checks
  checks-are n p =
      let f = window_check s.window.first.0 s.window.last.0 in
      let z = last_checks s.taken s.sums share in
      sym
      (ap (λ (n : ℕ). n then z) (p ∙ alone-number kind c s.window table) ∙ then-assoc f (claim_check c then table_check_of kind table c.cell) z
      ∙ ap (λ (n : ℕ). f then n) (then-assoc (claim_check c) (table_check_of kind table c.cell) z))

  -- a refusal that answers all checks is the answer
  refused-by : (r : Refusal) → withdraw_check_with kind s c table ≡ number_of r
      → ◌≡◌ {A = Answer} (record { refused = number_of r; study = s }) (withdrawn_with kind s c table)
  unfolding withdrawn_with
  refused-by r e = rw (e, ne_eqb (number_of r) 0 (λ z. omega (tests, numbered-from-1 r, z))) refl

  pub unfit-answer : (r : Refusal) → number_of r ≡ (added_to_lent true kind table c (lent_study s.window 0 none)).refused
      → ◌≡◌ {A = Answer} (record { refused = number_of r; study = s }) (withdrawn_with kind s c table)
  unfit-answer r p = refused-by r (checks-are (number_of r) p ∙ then-fails (number_of r) _ (λ z. omega (tests, numbered-from-1 r, z)))

  module _ (p : 0 ≡ (added_to_lent true kind table c (lent_study s.window 0 none)).refused) (x : List ℤ)
      (q : x ≡ (added_to_lent true kind table c (lent_study s.window 0 none)).study.sums) where
    sound-claim : share_number kind c s.window table ≡ 0
    sound-claim = sym (p ∙ alone-number kind c s.window table)

    share-is : x ≡ share
    share-is = q ∙ alone-share kind c s.window table sound-claim

    number : withdraw_check_with kind s c table ≡ last_checks s.taken s.sums x
    number = checks-are 0 p ∙ then_next 0 _ refl ∙ ap (last_checks s.taken s.sums) (sym share-is)

    pub small : all_at_most 4294967295 table ≡ true → small_share x ≡ true
    small h = ap small_share share-is ∙ share-small kind c s.window table sound-claim h

    pub refused-answer : (r : Refusal) → number_of r ≡ last_checks s.taken s.sums x
        → ◌≡◌ {A = Answer} (record { refused = number_of r; study = s }) (withdrawn_with kind s c table)
    refused-answer r e = refused-by r (number ∙ sym e)

    pub withdrawn-answer : 0 ≡ last_checks s.taken s.sums x → (a : List ℤ) → a ≡ minus s.sums x
        → ◌≡◌ {A = Answer} (record { refused = 0; study = lent_study s.window (s.taken - 1) a }) (withdrawn_with kind s c table)
    unfolding withdrawn_with
    withdrawn-answer y a h =
        let k : withdraw_check_with kind s c table ≡ 0 = number ∙ sym y in
        let t = h ∙ ap (minus s.sums) share-is in
        rw k (λ i. record { refused = 0; study = lent_study s.window (s.taken - 1) (t i) })
