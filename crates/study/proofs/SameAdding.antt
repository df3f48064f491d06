-- Adding with plain rates is document 01's, and adding with a prepared table is adding with the rates that were prepared.
-- Assumes nothing.
use Prim.Native.Nat.{ℕ, suc, ◌+◌, ◌≤◌, ◌<◌}
use mathlib.Core.Path.{◌≡◌, refl, sym, ap, ap₂, ◌∙◌, fun_ext}
use mathlib.Core.Bool.{Bool, true}
use mathlib.Core.List.{List}
use lib.Dec.{eqb}
use lib.IntN.{ℤ}
use borrow.Author.Tests.{eqb-true, ne_eqb}
use Rattle.basics.specs.Pick.{pick}
use Rattle.basics.specs.Limits.{most_claims}
use Rattle.basics.specs.Checks.{◌then◌}
use Rattle.basics.specs.Tables.{all_at_most}
use Rattle.basics.proofs.Tests.{by}
use Rattle.claim_months.specs.declared.Claim.{Claim}
use Rattle.claim_months.specs.Claim.{claim_check, weight}
use Rattle.claim_months.specs.Exposure.{month_records}
use Rattle.claim_months.specs.Windows.{window_check}
use Rattle.rates.specs.declared.Kind.{Kind}
use Rattle.rates.specs.declared.Kind.TheVariants.{Plain, Prepared}
use Rattle.rates.specs.design.Prepared.{table_check_of, recovery_of, death_of, prepared_of}
use Rattle.rates.proofs.SameTable.{same-table}
use Rattle.study.specs.declared.Study.{Study}
use Rattle.study.specs.Answers.{Answer}
use Rattle.study.specs.Sums.{plus, within}
use Rattle.study.specs.Study.{record_sums, share_of, room_check, add_check, with_claim, added}
use Rattle.study.specs.design.PreparedAdding.{share_with, add_check_with, added_with, lent_study}
use Rattle.study.specs.design.LentAdding.{room_for, added_to_lent}
use Rattle.study.specs.design.SameAdding.{SameAdding}
use Rattle.study.proofs.WithSpan.{answer}
use Rattle.study.proofs.LentAdding.{taken-passed, lent-adding}

plain-added : (s : Study) (c : Claim) (rates : List ℕ) → added_with Plain s c rates ≡ added s c rates
unfolding added_with add_check_with share_with added add_check with_claim share_of table_check_of recovery_of death_of
plain-added s c rates = refl

module _ (s : Study) (c : Claim) (rates : List ℕ) where
  prepared-number : add_check_with Prepared s c (prepared_of rates) ≡ add_check_with Plain s c rates
  unfolding add_check_with
  prepared-number =
      ap (λ (n : ℕ). window_check s.window.first.0 s.window.last.0 then claim_check c then n then room_check s) ((same-table rates).same_check c.cell)

  pub prepared-share : table_check_of Plain rates c.cell ≡ 0 → share_with Prepared s.window (prepared_of rates) c ≡ share_with Plain s.window rates c
  unfolding share_with
  prepared-share e =
      ap₂ (λ (r d : ℕ → ℤ). record_sums r d (weight c) (month_records c s.window.first.0 s.window.last.0))
      (fun_ext (λ d. (same-table rates).same_recovery c.cell d e)) (fun_ext (λ d. (same-table rates).same_death c.cell d e))

  -- the study with one claim more, its share added
  abbrev one_more : List ℤ → Study
  one_more x = lent_study s.window (s.taken + 1) (plus s.sums x)

  prepared-added : added_with Prepared s c (prepared_of rates) ≡ added_with Plain s c rates
  unfolding added_with
  prepared-added =
      let n = add_check_with Plain s c rates in
      let before : List ℤ = share_with Prepared s.window (prepared_of rates) c in
      let after : List ℤ = share_with Plain s.window rates c in
      rw prepared-number
      (by (eqb n 0) (λ t. answer n (pick t (one_more before) s) ≡ answer n (pick t (one_more after) s))
      (λ q. ap (λ (x : List ℤ). answer n (one_more x)) (prepared-share (taken-passed Plain s c rates (eqb-true n 0 q)).rates)) (λ q. refl))

pub same-adding : SameAdding
same-adding = record { plain = plain-added; prepared = λ s c rates. prepared-added s c rates ∙ plain-added s c rates }

-- the answer of adding to lent sums, told what is so of them, as that of adding to a study: n is answered, and t are the sums afterwards
module _ (kind : Kind) (s : Study) (c : Claim) (rates : List ℕ) (room : Bool) (so : room ≡ within s.sums) (n : ℕ) (t : List ℤ)
    (p : n ≡ (added_to_lent room kind rates c s).refused) (q : t ≡ (added_to_lent room kind rates c s).study.sums) where
  whole : added_to_lent room kind rates c s ≡ added_with kind s c rates
  whole = lent-adding.told kind rates c s room so

  number : n ≡ add_check_with kind s c rates
  unfolding added_with
  number = p ∙ ap (λ (a : Answer). a.refused) whole

  sums-are : t ≡ (added_with kind s c rates).study.sums
  sums-are = q ∙ ap (λ (a : Answer). a.study.sums) whole

  -- a refusal leaves the sums
  pub lent-kept : (n ≡ 0 → ⊥) → t ≡ s.sums
  unfolding added_with
  lent-kept h = rw (← number, ne_eqb n 0 h) at sums-are

  pub lent-refused : (n ≡ 0 → ⊥) → answer n s ≡ added_with kind s c rates
  unfolding added_with
  lent-refused h = rw (← number, ne_eqb n 0 h) refl

  pub lent-taken : n ≡ 0 → answer 0 (lent_study s.window (s.taken + 1) t) ≡ added_with kind s c rates
  unfolding added_with
  lent-taken h =
      let e : add_check_with kind s c rates ≡ 0 = sym number ∙ h in
      let v = rw e at sums-are in
      rw e (ap (λ (x : List ℤ). answer 0 (lent_study s.window (s.taken + 1) x)) v)

  -- a claim is taken only where there is room
  pub lent-room : n ≡ 0 → s.taken < most_claims
  lent-room h = (taken-passed kind s c rates (sym number ∙ h)).few

  -- room for one claim more before is room for that many after
  pub lent-spare : (k : ℕ) → suc k ≤ 100 → all_at_most 4294967295 rates ≡ true → room_for (suc k) s.sums ≡ true → room_for k t ≡ true
  lent-spare k h small f = rw sums-are (lent-adding.room_kept kind rates c s k h small f)
