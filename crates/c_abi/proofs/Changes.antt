-- Changes of a study's list: what a call answers, and what the list holds then, by the tests that lead there; and adding and withdrawing with a table of
-- either kind.
-- Assumes nothing.
use Prim.Native.Nat.{ℕ}
use mathlib.Core.Path.{◌≡◌, refl, ap, ◌∙◌}
use mathlib.Core.Bool.{Bool, true, false}
use mathlib.Core.List.{List}
use lib.IntN.{ℤ}
use lib.Seq.{sets}
use lib.Dec.{eqb}
use Rattle.basics.specs.Pick.{pick}
use Rattle.basics.specs.Limits.{no_form}
use Rattle.basics.proofs.Tests.{by}
use Rattle.claim_months.specs.declared.Claim.{Claim}
use Rattle.rates.specs.declared.Kind.{Kind}
use Rattle.rates.specs.declared.Kind.TheVariants.{Plain, Prepared}
use Rattle.study.specs.declared.Study.{Study}
use Rattle.study.specs.Answers.{Answer}
use Rattle.study.specs.design.PreparedAdding.{added_with}
use Rattle.study.specs.design.PreparedWithdrawing.{withdrawn_with}
use Rattle.study.proofs.SameAdding.{same-adding}
use Rattle.study.proofs.PreparedWithdrawing.{same-withdrawing}
use Rattle.claim_file.specs.BlockAnswers.{record_in}
use Rattle.study_list.specs.StudyList.{study_numbers}
use Rattle.c_abi.specs.declared.Change.TheVariants.{Add, Withdraw}
use Rattle.c_abi.specs.StudyCalls.{study_form, study_in, Taking, changed_by, taken_from, form_answer, form_after, claim_answer, claim_after}
use Rattle.std.specs.Prelude.{None}

pub adding-is : (kind : Kind) (s : Study) (c : Claim) (table : List ℕ) → added_with kind s c table ≡ changed_by Add kind s c table
unfolding changed_by
adding-is Plain s c table = same-adding.plain s c table
adding-is Prepared s c table = refl

pub withdrawing-is : (kind : Kind) (s : Study) (c : Claim) (table : List ℕ) → withdrawn_with kind s c table ≡ changed_by Withdraw kind s c table
unfolding changed_by
withdrawing-is Plain s c table = same-withdrawing.plain s c table
withdrawing-is Prepared s c table = refl

module _ (xs : List ℤ) (a : Answer) (form : Bool) where
  -- 255 leaves the list
  unchanged : form_answer form a ≡ no_form → (no_form ≡ form_answer form a) × (xs ≡ form_after form xs a)
  unchanged e = rw e (refl, refl)

  pub not_taken : form ≡ false → (no_form ≡ form_answer form a) × (xs ≡ form_after form xs a)
  not_taken e = unchanged (rw e refl)

  -- an answer that is not refused is stored
  pub stored : (b : Answer) (n : ℕ) (l : List ℤ) → form ≡ true → b ≡ a → n ≡ b.refused → l ≡ pick (eqb b.refused 0) (sets xs 0 (study_numbers b.study)) xs
      → (n ≡ form_answer form a) × (l ≡ form_after form xs a)
  stored b n l t e p q =
      rw t (p ∙ ap (λ (k : Answer). k.refused) e, q ∙ ap (λ (k : Answer). pick (eqb k.refused 0) (sets xs 0 (study_numbers k.study)) xs) e)

-- bytes that are no record are answered 255
pub no_record : (take : Taking) (xs : List ℤ) (claim table : List ℕ) → record_in claim 0 ≡ None
    → (no_form ≡ claim_answer take xs claim table) × (xs ≡ claim_after take xs claim table)
unfolding claim_answer claim_after taken_from
no_record take xs claim table e =
    unchanged xs (taken_from take (study_in xs) (record_in claim 0) table) (study_form xs)
    (rw e (by (study_form xs) (λ y. pick y no_form no_form ≡ no_form) (λ q. refl) (λ q. refl)))
