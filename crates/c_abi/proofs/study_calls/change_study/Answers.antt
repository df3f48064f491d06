-- `change_study` meets its contract: each way out has the tests that lead there. Assumes nothing.
use mathlib.Core.Path.{◌≡◌, sym, ◌∙◌}
use native.Mathlib.Omega.{arith}
use lib.ListN.{length}
use borrow.Author.Tests.{le-leb, lt-leb}
use Rattle.study.specs.Answers.{by_number}
use Rattle.claim_file.specs.BlockAnswers.{record_in}
use Rattle.c_abi.specs.StudyCalls.{study_form, study_in, changed_by, taken_from, claim_answer, claim_after}
use Rattle.c_abi.proofs.Changes.{not_taken, stored, no_record}
use Rattle.c_abi.proofs.study_calls.change_study.Goals as goal

pub returns-then-study-lt83 : goal.returns-then-study-lt83
unfolding claim_answer claim_after study_form
returns-then-study-lt83 c =
    let rest = not_taken c.args.study.now _ _ (lt-leb 83 (length c.args.study.now) (omega arith)) in
    record { value = rest.0; study_after = rest.1 }

pub returns-in_default : goal.returns-in_default
returns-in_default c =
    let rest = no_record (changed_by c.args.change c.args.kind) c.args.study.now _ _ (sym c.in_default.ensures) in
    record { value = rest.0; study_after = rest.1 }

pub returns : goal.returns
unfolding claim_answer claim_after study_form taken_from
returns c =
    let s = c.args in
    let a : by_number c.changed.result ≡ taken_from (changed_by s.change s.kind) (study_in s.study.now) (record_in s.claim.now 0) s.table.now = c.changed.ensures ∙ (λ i. taken_from (changed_by s.change s.kind) (c.study_in.ensures i) (c.in-Some.ensures i) s.table.now) in
    let rest = stored s.study.now _ _ _ _ _ (le-leb 83 (length s.study.now) (omega arith)) a c.put_answer.ensures.value c.put_answer.ensures.study_after in
    record { value = rest.0; study_after = rest.1 }
