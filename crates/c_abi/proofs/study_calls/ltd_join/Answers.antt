-- `ltd_join` meets its contract: each way out has the tests that lead there. Assumes nothing.
use mathlib.Core.Path.{◌≡◌, refl, ◌∙◌}
use mathlib.Core.Bool.{◌&&◌, and-false}
use native.Mathlib.Omega.{arith}
use lib.ListN.{length}
use borrow.Author.Tests.{le-leb, lt-leb}
use Rattle.study.specs.Answers.{by_number}
use Rattle.study.specs.Joining.{joined}
use Rattle.c_abi.specs.StudyCalls.{study_form, study_in, join_answer, join_after}
use Rattle.c_abi.proofs.Changes.{not_taken, stored}
use Rattle.c_abi.proofs.study_calls.ltd_join.Goals as goal

pub returns-then-study-lt83 : goal.returns-then-study-lt83
unfolding join_answer join_after study_form
returns-then-study-lt83 c =
    let rest = not_taken c.args.study.now _ (study_form c.args.study.now && study_form c.args.other.now) (rw (lt-leb 83 (length c.args.study.now) (omega arith)) refl) in
    record { value = rest.0; study_after = rest.1 }

pub returns-then-other-lt83 : goal.returns-then-other-lt83
unfolding join_answer join_after study_form
returns-then-other-lt83 c =
    let rest = not_taken c.args.study.now _ (study_form c.args.study.now && study_form c.args.other.now) (rw (lt-leb 83 (length c.args.other.now) (omega arith), and-false) refl) in
    record { value = rest.0; study_after = rest.1 }

pub returns : goal.returns
unfolding join_answer join_after study_form
returns c =
    let s = c.args in
    let a : by_number c.join.result ≡ joined (study_in s.study.now) (study_in s.other.now) = c.join.ensures ∙ (λ i. joined (c.study_in.ensures i) (c.study_in-2.ensures i)) in
    let rest = stored s.study.now _ _ _ _ _ (rw (le-leb 83 (length s.study.now) (omega arith), le-leb 83 (length s.other.now) (omega arith)) refl) a c.put_answer.ensures.value c.put_answer.ensures.study_after in
    record { value = rest.0; study_after = rest.1 }
