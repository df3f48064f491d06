-- `put_sum` meets its contract: the sign as the test says, and the size behind it. Assumes nothing.
use Prim.Native.Nat.{ℕ, suc, ◌≤◌}
use mathlib.Core.Path.{◌≡◌, refl, ap, ◌∙◌}
use mathlib.Core.Bool.{true, false}
use mathlib.Core.List.{[], ◌∷◌, ◌++◌}
use native.Mathlib.Omega.{arith}
use lib.ListN.{length}
use lib.IntN.{ℤ, pos, negsuc, nat_abs}
use lib.Signed.{lt_z}
use mir.Syntax.{w64}
use mir.Val.{SFits}
use mir.Facts.{to_z-of_z}
use Rattle.basics.proofs.Tests.{tests}
use Rattle.valuation.proofs.Laws.{clash}
use Rattle.report.specs.Text.{number_text, signed_text, sum_column}
use Rattle.report.proofs.Numbers.{size-length}
use Rattle.report.proofs.Texts.{and_then, renamed, shorter}
use Rattle.report.proofs.puts.put_sum.Goals as goal

-- a sum's text from its sign and its size
negative : (z : ℤ) (n : ℕ) → lt_z z (pos 0) ≡ true → n ≡ nat_abs z → (32 ∷ 45 ∷ []) ++ number_text n ≡ sum_column z
unfolding sum_column signed_text
negative (pos m) n h e = absurd (omega tests)
negative (negsuc m) n h e = ap (λ (k : ℕ). 32 ∷ 45 ∷ number_text k) e

positive : (z : ℤ) (n : ℕ) → lt_z z (pos 0) ≡ false → n ≡ nat_abs z → (32 ∷ []) ++ number_text n ≡ sum_column z
unfolding sum_column signed_text
positive (pos m) n h e = ap (λ (k : ℕ). 32 ∷ number_text k) e
positive (negsuc m) n h e = clash refl h

-- a space, a sign and 19 digits at most
sum-length : (z : ℤ) → SFits w64 z → length (sum_column z) ≤ 21
unfolding sum_column signed_text
sum-length (pos n) f = let h = size-length n (omega (arith, f.sfits)) in omega arith
sum-length (negsuc n) f = let h = size-length (suc n) (omega (arith, f.sfits)) in omega arith

pub returns-then-sum-lt0 : goal.returns-then-sum-lt0
returns-then-sum-lt0 c =
    let text = negative c.args.sum _ (rw (to_z-of_z c.ranges.sum) at c.if-sum-lt0.true) (c.unsigned_abs-size.ensures.value ∙ ap nat_abs (to_z-of_z c.ranges.sum)) in
    shorter 21 (renamed (and_then c.put_text-at.ensures c.put_number.ensures) text) (sum-length c.args.sum c.ranges.sum)

pub returns : goal.returns
returns c =
    renamed (and_then c.put_byte-at.ensures c.put_number-2.ensures)
    (positive c.args.sum _ (rw (to_z-of_z c.ranges.sum) at c.if-sum-lt0.false) (c.unsigned_abs-size.ensures.value ∙ ap nat_abs (to_z-of_z c.ranges.sum)))
