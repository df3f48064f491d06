-- `run_corrected_with` meets its contract: the checks in their order, and then the records kept. Assumes nothing.
use native.Mathlib.Omega.{arith}
use Prim.Native.Nat.{ℕ, ◌≤◌}
use mathlib.Core.Path.{◌≡◌, sym, ap, ap₂, ◌∙◌}
use mathlib.Core.Bool.{true}
use lib.ListN.{length}
use Rattle.basics.specs.Refused.{number_of, number_in}
use Rattle.basics.proofs.Refused.{numbered-from-1}
use Rattle.study.specs.Answers.{Answer, by_number}
use Rattle.study.specs.Study.{opened}
use Rattle.claim_file.specs.Corrections.{file_records, sound_all, last_ones, records_added}
use Rattle.claim_file.specs.design.PreparedRuns.{adding_with}
use Rattle.claim_file.proofs.Stops.{none-in}
use Rattle.claim_file.proofs.Marking.{zeros-zero}
use Rattle.claim_file.proofs.RunRecords.{window_answer, window_refused}
use Rattle.claim_file.proofs.StruckRuns.{corrected-added, corrected-refused}
use Rattle.claim_file.proofs.CorrectedRuns.{AllSound, sound-blocks-so, corrected-unsound, corrected-many}
use Rattle.claim_file.proofs.corrections.run_corrected_with.Goals as goal
use Rattle.claim_file.proofs.corrections.run_corrected_with.Goals.{Else-sound-file, After-open-answer}

-- a file that has sound blocks alone
all_so : (c : Else-sound-file) → sound_all c.args.file.now ≡ true
all_so c =
    let e = c.sound_blocks-sound.ensures in
    sound-blocks-so c.args.file.now
    (record {
      count_so = omega (arith, e, c.if-sound-file.false);
      whole-so = omega (arith, c.if-sound-file.false);
      some-so = omega (arith, c.if-sound-file.false, c.if-sound-eq0.false);
    })

-- opening answers what its window does
module _ (c : After-open-answer) where
  answer-so : by_number c.open-answer.result ≡ window_answer c.args.file.now
  answer-so = c.open-answer.ensures ∙ ap₂ opened c.date_at.ensures c.date_at-2.ensures

  number-so : number_in c.open-answer.result.refused ≡ (window_answer c.args.file.now).refused
  number-so = ap (λ (a : Answer). a.refused) answer-so

pub returns-then-sound-eq0 : goal.returns-then-sound-eq0
returns-then-sound-eq0 c =
    let e = c.sound_blocks-sound.ensures in
    c.unsound_at.ensures
    ∙ corrected-unsound (adding_with c.args.kind c.args.table.now) c.args.file.now c.sound_blocks-sound.result e
    (λ (f : AllSound c.args.file.now). absurd (omega (arith, e, c.if-sound-eq0.true, f.count_so, f.whole-so, f.some-so)))

pub returns-then-sound-file : goal.returns-then-sound-file
returns-then-sound-file c =
    let e = c.sound_blocks-sound.ensures in
    c.unsound_at-then-sound-file.ensures
    ∙ corrected-unsound (adding_with c.args.kind c.args.table.now) c.args.file.now c.sound_blocks-sound.result e
    (λ (f : AllSound c.args.file.now). absurd (omega (arith, e, c.if-sound-file.true, f.count_so, f.whole-so)))

pub returns-in-Some : goal.returns-in-Some
returns-in-Some c =
    let at = goal.at.returns-in-Some c in
    let is-so : number_in c.open-answer.result.refused ≡ number_of c.in-Some.refusal = ap number_in c.in-Some.is in
    c.refused.ensures
    ∙ ap (λ (n : ℕ). record { study = c.open-answer.result.study; refused = n; block = 0; place = 0 }) (sym is-so)
    ∙ ap window_refused (answer-so at.After-open-answer)
    ∙ sym
    (corrected-refused (adding_with c.args.kind c.args.table.now) c.args.file.now (all_so at.Else-sound-file)
    (λ z. absurd (omega (arith, number-so at.After-open-answer ∙ z, is-so, numbered-from-1 c.in-Some.refusal))))

pub returns-then-record_count-gt-MOST_RECORDS : goal.returns-then-record_count-gt-MOST_RECORDS
returns-then-record_count-gt-MOST_RECORDS c =
    let at = goal.at.returns-then-record_count-gt-MOST_RECORDS c in
    c.refused-then-record_count-gt-MOST_RECORDS.ensures
    ∙ ap (λ (a : Answer). record { study = a.study; refused = 14; block = 0; place = 0 }) (answer-so at.After-open-answer)
    ∙ sym
    (corrected-many (adding_with c.args.kind c.args.table.now) c.args.file.now (all_so at.Else-sound-file) (sym (number-so at.After-open-answer) ∙ none-in c.open-answer.result.refused c.in_default.not-Some)
    (omega (arith, c.record_count.ensures, c.if-record_count-gt-MOST_RECORDS.true)))

pub mark_struck-requires : goal.mark_struck-requires
mark_struck-requires c =
    let few-so : length (file_records c.args.file.now) ≤ 60000 = omega (arith, c.record_count.ensures, c.if-record_count-gt-MOST_RECORDS.false) in
    record { file_value = all_so (goal.at.mark_struck-requires c).Else-sound-file; file_len_bound = few-so; all_zero = zeros-zero 7500 }

pub add_kept-requires : goal.add_kept-requires
add_kept-requires c =
    let few-so : length (file_records c.args.file.now) ≤ 60000 = omega (arith, c.record_count.ensures, c.if-record_count-gt-MOST_RECORDS.false) in
    record { file_value = all_so (goal.at.add_kept-requires c).Else-sound-file; file_len_bound = few-so; marks_struck = c.mark_struck.ensures }

pub returns : goal.returns
returns c =
    let at = goal.at.returns c in
    let few-so : length (file_records c.args.file.now) ≤ 60000 = omega (arith, c.record_count.ensures, c.if-record_count-gt-MOST_RECORDS.false) in
    c.add_kept.ensures
    ∙ ap (λ (a : Answer). records_added (adding_with c.args.kind c.args.table.now) a.study (last_ones (file_records c.args.file.now))) (answer-so at.After-open-answer)
    ∙ sym (corrected-added (adding_with c.args.kind c.args.table.now) c.args.file.now (all_so at.Else-sound-file) (sym (number-so at.After-open-answer) ∙ none-in c.open-answer.result.refused c.in_default.not-Some) few-so)
