-- `claim_months::listing::difference` meets its contract: the difference of two numbers up to 30 is at most 30 in size.
-- Assumes nothing.
use mathlib.Core.Path.{◌≡◌, sym, ap₂, ◌∙◌, subst⁻¹}
use native.Mathlib.Omega.{arith}
use lib.IntN.{pos, sub_ℕ, ◌-ℤ◌}
use mir.Syntax.{w32}
use mir.Val.{SFits, to_z, of_z}
use Rattle.basics.proofs.Integers.{sub_is}
use Rattle.claim_months.proofs.SignedRecords.{small-fits, read_back, difference-size}
use Rattle.claim_months.proofs.listing.difference.Goals as goal

pub overflow_sub-result : goal.overflow_sub-result
overflow_sub-result c =
    let computed : to_z w32 (of_z w32 c.signed.result) -ℤ to_z w32 (of_z w32 c.signed-2.result) ≡ sub_ℕ c.args.through.0 c.args.before.0 = let a = c.args in
    ap₂ ◌-ℤ◌ (read_back _ (pos a.through.0) c.signed.ensures (omega arith))
    (read_back _ (pos a.before.0) c.signed-2.ensures (omega arith))
    ∙ sym (sub_is a.through.0 a.before.0) in
    subst⁻¹ (SFits w32) computed (small-fits _ (difference-size c.args.through.0 c.args.before.0 c.requires.upper_bound c.requires.lower_bound))

pub returns : goal.returns
returns c =
    let computed : to_z w32 (of_z w32 c.signed.result) -ℤ to_z w32 (of_z w32 c.signed-2.result) ≡ sub_ℕ c.args.through.0 c.args.before.0 = let a = c.args in
    ap₂ ◌-ℤ◌ (read_back _ (pos a.through.0) c.signed.ensures (omega arith))
    (read_back _ (pos a.before.0) c.signed-2.ensures (omega arith))
    ∙ sym (sub_is a.through.0 a.before.0) in
    read_back _ _ computed (difference-size c.args.through.0 c.args.before.0 c.requires.upper_bound c.requires.lower_bound)
