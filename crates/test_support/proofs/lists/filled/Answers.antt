-- `test_support::lists::filled` meets its contract. The loop's invariant: the table is filled if what is left of its places is. Assumes nothing.
use Rattle.std.proofs.Common.{◌≡◌, ℕ, suc, ◌+◌, ◌-◌, min, List, set, sym, refl, ◌∙◌, add-one, arith}
use Rattle.test_support.specs.Lists.{step_to, filled_from}
use Rattle.test_support.proofs.lists.filled.Goals as goal

module _ (step limit : ℕ) (l : List ℕ) (i n : ℕ) where
  -- one place more
  more : (k j : ℕ) → k ≡ suc j → filled_from step limit k l i n ≡ filled_from step limit j (set l i n) (i + 1) (step_to step limit n)
  unfolding filled_from
  more k j e = rw (e, add-one) refl

  -- no place is left
  ended : (k : ℕ) → k ≡ 0 → filled_from step limit k l i n ≡ l
  unfolding filled_from
  ended k e = rw e refl

pub loop-i-preserved : goal.loop-i-preserved
loop-i-preserved c =
    let l = c.loop-i in
    let a = c.args in
    let e = more a.step a.limit l.after l.i l.number (min a.to 1916 - l.i) (min a.to 1916 - (l.i + 1)) (omega (arith, c.min-i-end.ensures)) in
    rw c.stepped-number.ensures (l.invariant ∙ e)

pub returns : goal.returns
returns c =
    let l = c.loop-i in
    let a = c.args in
    sym (l.invariant ∙ ended a.step a.limit l.after l.i l.number (min a.to 1916 - l.i) (omega (arith, c.min-i-end.ensures)))
