-- `date_of_word` meets its contract: a word of ten bytes with its hyphens has three numbers, or it is no date's. Assumes nothing.
use Prim.Native.Nat.{ℕ}
use mathlib.Core.Path.{◌≡◌, refl, ◌∙◌}
use mathlib.Core.Bool.{false, and-false}
use mathlib.Core.List.{List}
use native.Mathlib.Omega.{arith}
use lib.ListN.{length, get_or, take, drop}
use borrow.Author.Tests.{eq-eqb, ne_eqb}
use Rattle.ltd_load.specs.Words.{number_of_word, date_of, is_dated, date_of_word}
use Rattle.ltd_load.proofs.words.date_of_word.Goals as goal
use Rattle.ltd_load.proofs.words.date_of_word.Goals.{then-word-ne10-via-then-word-ne10, then-word-ne10-via-else-word-ne10+then-word-ne45, then-word-ne10-via-else-word-ne10+else-word-ne45+then-word-ne45-2}
use Rattle.std.specs.Prelude.{None, Option, Some}

module _ (word : List ℕ) where
  not-dated : is_dated word ≡ false → None ≡ date_of_word word
  unfolding date_of_word
  not-dated e = rw e

  -- ten bytes with the hyphens
  module _ (l : length word ≡ 10) (h : get_or word 4 0 ≡ 45) (k : get_or word 7 0 ≡ 45) where
    from_parts : (y m d : Option ℕ) → y ≡ number_of_word (take 4 word) → m ≡ number_of_word (take 2 (drop 5 word)) → d ≡ number_of_word (take 2 (drop 8 word))
        → date_of y m d ≡ date_of_word word
    unfolding date_of_word is_dated
    from_parts y m d p q r =
        rw (eq-eqb (length word) 10 l, eq-eqb (get_or word 4 0) 45 h, eq-eqb (get_or word 7 0) 45 k) (λ i. date_of (p i) (q i) (r i))

pub returns-then-word-ne10 : goal.returns-then-word-ne10
unfolding is_dated
returns-then-word-ne10 c =
    let word : List ℕ = c.args.word.now in
    not-dated word
    (elim c.then-word-ne10.branch [
      | then-word-ne10-via-then-word-ne10 w ↦ simp (ne_eqb (length word) 10 w.if-word-ne10.true)
      | then-word-ne10-via-else-word-ne10+then-word-ne45 w ↦ simp (ne_eqb (get_or word 4 0) 45 w.if-word-ne45.true, and-false)
      | then-word-ne10-via-else-word-ne10+else-word-ne45+then-word-ne45-2 w ↦ simp (ne_eqb (get_or word 7 0) 45 w.if-word-ne45-2.true, and-false)
    ])

pub returns-in_err-year : goal.returns-in_err-year
unfolding date_of
returns-in_err-year c =
    c.from_residual.ensures ∙ from_parts _ (omega arith) (omega arith) (omega arith) None _ _ c.in_err-year.ensures refl refl

pub returns-in_err-month : goal.returns-in_err-month
unfolding date_of
returns-in_err-month c =
    c.from_residual-in_err-month.ensures
    ∙ from_parts _ (omega arith) (omega arith) (omega arith) (Some c.in_ok-year.year) None _ c.in_ok-year.ensures c.in_err-month.ensures refl

pub returns-in_err-day : goal.returns-in_err-day
unfolding date_of
returns-in_err-day c =
    c.from_residual-in_err-day.ensures
    ∙ from_parts _ (omega arith) (omega arith) (omega arith) (Some c.in_ok-year.year) (Some c.in_ok-month.month) None c.in_ok-year.ensures c.in_ok-month.ensures
    c.in_err-day.ensures

pub returns : goal.returns
unfolding date_of
returns c =
    c.date_of_parts.ensures
    ∙ from_parts _ (omega arith) (omega arith) (omega arith) (Some c.in_ok-year.year) (Some c.in_ok-month.month) (Some c.in_ok-day.day) c.in_ok-year.ensures
    c.in_ok-month.ensures c.in_ok-day.ensures
