-- `number_of_word` meets its contract: it reads digit by digit, up to a byte that is none or a number that is too large. Assumes nothing.
use mathlib.Core.Path.{sym, ◌∙◌}
use native.Mathlib.Omega.{arith}
use lib.ListN.{length}
use borrow.Author.Tests.{eqb-true, eqb-false}
use Rattle.ltd_load.specs.Words.{is_digit}
use Rattle.ltd_load.proofs.Digits.{empty-word, none_read, not_digit, too_large, more-read, all_read}
use Rattle.ltd_load.proofs.words.number_of_word.Goals as goal

pub returns-then-is_empty : goal.returns-then-is_empty
returns-then-is_empty c = empty-word _ (eqb-true (length c.args.word.now) 0 (sym c.is_empty.ensures ∙ c.if-is_empty.true))

pub returns-then-not-is_ascii_digit : goal.returns-then-not-is_ascii_digit
unfolding is_digit
returns-then-not-is_ascii_digit c = not_digit _ _ _ c.loop-byte.invariant (omega arith) (sym c.is_ascii_digit.ensures.value ∙ c.if-not-is_ascii_digit.true)

pub returns-in_err-checked_mul : goal.returns-in_err-checked_mul
returns-in_err-checked_mul c =
    let h = c.in_err-checked_mul.ensures in
    c.from_residual.ensures ∙ too_large _ _ _ c.loop-byte.invariant (omega arith) (omega (arith, h))

pub returns-in_err-number : goal.returns-in_err-number
returns-in_err-number c =
    let h = c.in_err-number.ensures in
    let g = c.in_ok-checked_mul.ensures in
    c.from_residual-in_err-number.ensures ∙ too_large _ _ _ c.loop-byte.invariant (omega arith) (omega (arith, h, g.1, c.from.ensures))

pub loop-byte-preserved : goal.loop-byte-preserved
unfolding is_digit
loop-byte-preserved c =
    let h = c.in_ok-number.ensures in
    let g = c.in_ok-checked_mul.ensures in
    more-read _ _ _ c.loop-byte.invariant (omega arith) _ (omega (arith, h.1, g.1, c.from.ensures)) (omega (arith, h.0))
    (sym c.is_ascii_digit.ensures.value ∙ c.if-not-is_ascii_digit.false)

pub returns : goal.returns
returns c =
    all_read _ _ _ c.loop-byte.invariant (omega arith) (eqb-false (length c.args.word.now) 0 (sym c.is_empty.ensures ∙ c.if-is_empty.false))

pub loop-byte-init : goal.loop-byte-init
loop-byte-init c = none_read _
