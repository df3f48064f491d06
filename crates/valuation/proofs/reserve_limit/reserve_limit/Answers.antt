-- `valuation::reserve_limit::reserve_limit` meets its contract: the list's length, the claims' checks and the two totals decide. Assumes nothing.
use Prim.Native.Nat.{ℕ, ◌/◌, ◌%◌, ◌≤◌}
use mathlib.Core.Path.{◌≡◌, ap, ◌∙◌}
use mathlib.Core.Bool.{true, false, and-false}
use mathlib.Core.List.{List}
use borrow.Author.Tests.{le-leb, lt-leb, eq-eqb, ne_eqb}
use native.Mathlib.Omega.{arith}
use lib.ListN.{length}
use Rattle.basics.specs.Limits.{most_open_claims}
use Rattle.valuation.specs.LimitAnswers.{limit_by_number}
use Rattle.valuation.specs.ReserveLimit.{claims_open_in, list_sound}
use Rattle.valuation.specs.design.Private.{totals_of}
use Rattle.valuation.proofs.AnswerTests.{passed_on}
use Rattle.valuation.proofs.LimitAnswers.{list-refused, claims-refused, judged-replaced, judged-given}
use Rattle.valuation.proofs.reserve_limit.reserve_limit.Goals as goal
use Rattle.valuation.proofs.reserve_limit.reserve_limit.Goals.{then-list-ne0-via-then-list-ne0, then-list-ne0-via-else-list-ne0+then-list-gt-MOST_OPEN_CLAIMS}

pub returns-then-list-ne0 : goal.returns-then-list-ne0
unfolding list_sound
returns-then-list-ne0 c =
    let l : List ℕ = c.args.list.now in
    let unsound : list_sound l ≡ false
    = elim c.then-list-ne0.branch [
      | then-list-ne0-via-then-list-ne0 w ↦ simp (ne_eqb (length l % 3) 0 w.if-list-ne0.true)
      | then-list-ne0-via-else-list-ne0+then-list-gt-MOST_OPEN_CLAIMS w ↦ simp (lt-leb (length l / 3) most_open_claims (omega arith), and-false)
    ] in
    list-refused _ l _ _ _ unsound

is-sound : (l : List ℕ) → length l % 3 ≡ 0 → length l / 3 ≤ most_open_claims → list_sound l ≡ true
unfolding list_sound
is-sound l e h = simp (eq-eqb (length l % 3) 0 e, le-leb (length l / 3) most_open_claims h)

pub returns-in_err-totals : goal.returns-in_err-totals
returns-in_err-totals c =
    let a = c.args in
    ap limit_by_number (passed_on _ _ c.from_residual.ensures)
    ∙ claims-refused _ _ _ _ _ (is-sound a.list.now (omega arith) (omega arith)) _
    (c.in_err-totals.ensures ∙ ap (λ (o : List ℕ). totals_of a.rates.now a.list.now a.t o a.v (claims_open_in a.list.now)) c.replaced_t-other.ensures)

pub returns-then-totals : goal.returns-then-totals
returns-then-totals c =
    let a = c.args in
    rw c.replaced_t-other.ensures
    (judged-replaced _ _ _ _ _ (is-sound a.list.now (omega arith) (omega arith)) _
    (c.in_ok-totals.ensures ∙ ap (λ (o : List ℕ). totals_of a.rates.now a.list.now a.t o a.v (claims_open_in a.list.now)) c.replaced_t-other.ensures)
    c.if-totals.true)

pub returns-else-totals : goal.returns-else-totals
returns-else-totals c =
    let a = c.args in
    judged-given _ _ _ _ _ (is-sound a.list.now (omega arith) (omega arith)) _
    (c.in_ok-totals.ensures ∙ ap (λ (o : List ℕ). totals_of a.rates.now a.list.now a.t o a.v (claims_open_in a.list.now)) c.replaced_t-other.ensures)
    c.if-totals.false
