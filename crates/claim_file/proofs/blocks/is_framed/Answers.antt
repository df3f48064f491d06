-- `is_framed` meets its contract: by the tests that led there. Assumes nothing.
use Prim.Native.Nat.{ℕ, ◌%◌}
use mathlib.Core.Path.{◌≡◌, refl, sym, ap, ◌∙◌}
use mathlib.Core.Bool.{false≢true}
use native.Mathlib.Omega.{arith}
use lib.Dec.{eqb}
use lib.ListN.{length}
use borrow.Author.Tests.{eq-eqb, ne_eqb}
use Rattle.claim_file.specs.Block.{framed}
use Rattle.claim_file.proofs.BlockTests.{framed_is}
use Rattle.claim_file.proofs.blocks.is_framed.Goals as goal
use Rattle.claim_file.proofs.blocks.is_framed.Goals.{then-two_at-due, else-two_at-due}

pub returns-in_default : goal.returns-in_default
returns-in_default c = sym (framed_is _ _ (ne_eqb _ _ (λ e. c.in_default.ensures.cases e)) refl refl refl)

pub returns-then-check_sum-two_at : goal.returns-then-check_sum-two_at
returns-then-check_sum-two_at c =
    let whole : length c.in-Some.bytes.now ≡ 512 = omega arith in
    elim c.if-two_at-due.branch [
      | then-two_at-due w ↦
          sym (framed_is _ _ (eq-eqb _ _ whole)
          (ap (λ (n : ℕ). eqb n c.args.due) (sym c.two_at.ensures) ∙ eq-eqb _ _ w.if-two_at-due.true)
          (sym (λ i. eqb (w.check_sum.ensures i % 65521) (w.two_at-then-two_at-due.ensures i)) ∙ sym w.value-is ∙ c.if-check_sum-two_at.true)
          (sym c.all_zero.ensures))
          ∙ ap (framed c.args.due) c.in-Some.ensures.cases.same
      | else-two_at-due w ↦ absurd (false≢true (sym (w.value-is ∙ ne_eqb _ _ w.if-two_at-due.false) ∙ c.if-check_sum-two_at.true))
    ]

pub returns-else-check_sum-two_at : goal.returns-else-check_sum-two_at
returns-else-check_sum-two_at c =
    let whole : length c.in-Some.bytes.now ≡ 512 = omega arith in
    elim c.if-two_at-due.branch [
      | then-two_at-due w ↦
          c.if-check_sum-two_at.false
          ∙ sym (framed_is _ _ (eq-eqb _ _ whole)
          (ap (λ (n : ℕ). eqb n c.args.due) (sym c.two_at.ensures) ∙ eq-eqb _ _ w.if-two_at-due.true)
          (sym (λ i. eqb (w.check_sum.ensures i % 65521) (w.two_at-then-two_at-due.ensures i)) ∙ sym w.value-is ∙ c.if-check_sum-two_at.false)
          refl)
          ∙ ap (framed c.args.due) c.in-Some.ensures.cases.same
      | else-two_at-due w ↦
          w.value-is
          ∙ ne_eqb _ _ w.if-two_at-due.false
          ∙ sym (framed_is _ _ (eq-eqb _ _ whole)
          (ap (λ (n : ℕ). eqb n c.args.due) (sym c.two_at.ensures) ∙ ne_eqb _ _ w.if-two_at-due.false)
          refl refl)
          ∙ ap (framed c.args.due) c.in-Some.ensures.cases.same
    ]
