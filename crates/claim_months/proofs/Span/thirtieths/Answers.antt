-- `claim_months::Span::thirtieths` meets its contract: the difference of two numbers of 32 bits fits 64.
-- Assumes nothing.
use Rattle.std.specs.Prelude.{ℕ, ◌<◌}
use mathlib.Core.Path.{sym, ap₂, ◌∙◌}
use native.Mathlib.Omega.{arith}
use lib.IntN.{pos, sub_ℕ, ◌-ℤ◌}
use Rattle.claim_months.specs.Span.{span_thirtieths}
use Rattle.basics.proofs.Integers.{sub_is, size-sub}
use Rattle.basics.proofs.Signed.{Small, result_fits, result-is}
use Rattle.claim_months.proofs.Span.thirtieths.Goals as goal

small : (u l : ℕ) → u < 4294967296 → l < 4294967296 → Small (pos u -ℤ pos l)
small u l h k = rw (← sub_is u l) (size-sub u l 9223372036854775807 (omega arith) (omega arith))

pub overflow_sub-result : goal.overflow_sub-result
overflow_sub-result c =
    let u = c.through_at.result.0 in
    let l = c.before_at.result.0 in
    rw (c.from.ensures, c.from-2.ensures) (result_fits ◌-ℤ◌ (pos u) (pos l) (omega arith) (omega arith) (small u l (omega arith) (omega arith)))

pub returns : goal.returns
unfolding span_thirtieths
returns c =
    let u = c.through_at.result.0 in
    let l = c.before_at.result.0 in
    rw (c.from.ensures, c.from-2.ensures)
    (result-is ◌-ℤ◌ (pos u) (pos l) (omega arith) (omega arith) (small u l (omega arith) (omega arith)) ∙ sym (sub_is u l)
    ∙ ap₂ sub_ℕ c.through_at.ensures c.before_at.ensures)
