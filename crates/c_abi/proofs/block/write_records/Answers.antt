-- `write_records` meets its contract: each return by the tests that led there. Assumes nothing.
use Prim.Native.Nat.{ℕ, ◌/◌, ◌%◌}
use mathlib.Core.Path.{◌≡◌, refl, ◌∙◌}
use mathlib.Core.Bool.{Bool, true, false, and-false}
use mathlib.Core.List.{List}
use native.Mathlib.Omega.{arith}
use lib.ListN.{length}
use borrow.Author.Tests.{eq-eqb, ne_eqb, le-leb, lt-leb}
use Rattle.std.specs.Prelude.{Some, None}
use Rattle.basics.specs.Pick.{pick}
use Rattle.basics.specs.Checks.{◌then◌}
use Rattle.claim_months.specs.declared.Claim.{Claim}
use Rattle.claim_file.specs.BlockAnswers.{write_check}
use Rattle.c_abi.specs.RecordCalls.{all_records, records_form, write_answer}
use Rattle.c_abi.proofs.block.write_records.Goals as goal

module _ (number : ℕ) (claims old : List ℕ) where
  refused : records_form claims ≡ false → 11 ≡ write_answer number claims old
  unfolding ◌then◌
  refused e = rw e

  written : records_form claims ≡ true → write_check number (length claims / 32) (length old) ≡ write_answer number claims old
  unfolding ◌then◌
  written e = rw e

-- whether the records lent are records, as the places say
module _ (l : List Claim) where
  none : (t : Bool) → None ≡ pick t (Some l) None → t ≡ false
  none true e = absurd (cc)
  none false e = refl

  some : (t : Bool) (k : List Claim) → Some k ≡ pick t (Some l) None → t ≡ true
  some true k e = refl
  some false k e = absurd (cc)

pub returns-then-claims-ne0-clause-value : goal.returns-then-claims-ne0-clause-value
returns-then-claims-ne0-clause-value c =
    let s = c.args in
    let bytes : List ℕ = s.claims.now in
    refused s.number bytes s.block.now (simp (ne_eqb (length bytes % 32) 0 (λ z. omega arith)))

pub returns-then-records-gt15-clause-value : goal.returns-then-records-gt15-clause-value
returns-then-records-gt15-clause-value c =
    let s = c.args in
    let bytes : List ℕ = s.claims.now in
    refused s.number bytes s.block.now (simp (lt-leb (length bytes / 32) 15 (omega arith), and-false))

pub returns-in_default-clause-value : goal.returns-in_default-clause-value
returns-in_default-clause-value c =
    let s = c.args in
    let bytes : List ℕ = s.claims.now in
    let t : all_records bytes (length bytes / 32) ≡ false = none _ _ c.in_default.ensures in
    refused s.number bytes s.block.now (simp (t, and-false))

pub returns-clause-value : goal.returns-clause-value
returns-clause-value c =
    let s = c.args in
    let bytes : List ℕ = s.claims.now in
    let t : all_records bytes (length bytes / 32) ≡ true = some _ _ _ c.in-Some.ensures in
    c.write.ensures.value
    ∙ written s.number bytes s.block.now (simp (eq-eqb (length bytes % 32) 0 (omega arith), le-leb (length bytes / 32) 15 (omega arith), t))
