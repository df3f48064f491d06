-- `study::Study::withdraw_with` meets its contract: what adding the claim makes of no sums is its share, and past the checks it is taken off.
-- Assumes nothing.
use mathlib.Core.Path.{◌∙◌}
use native.Mathlib.Omega.{arith}
use lib.IntN.{◌-ℤ◌}
use Rattle.std.proofs.Common.{rules}
use Rattle.basics.specs.Tables.{table}
use Rattle.basics.proofs.Tables.{at-most-list}
use Rattle.study.specs.Sums.{none}
use Rattle.study.proofs.Algebra.{each-is}
use Rattle.study.proofs.Withdrawals.{Withdrawable, last-passed, difference-fits, difference-is, unfit-answer, refused-answer, small, withdrawn-answer}
use Rattle.study.proofs.Study.withdraw_with.Goals as goal

pub returns-in-Err : goal.returns-in-Err
unfolding none table
returns-in-Err c = let a = c.args in c.refused.ensures ∙ unfit-answer a.kind a.self a.claim a.table.now c.in-Err.refusal (rw (c.window_months-window.ensures, c.rate_table-table.ensures.kind_value, c.rate_table-table.ensures.numbers_value) at c.in-Err.ensures.value)

pub returns-in-Err-last_checks : goal.returns-in-Err-last_checks
unfolding none table
returns-in-Err-last_checks c =
    let a = c.args in
    c.refused-in-Err-last_checks.ensures
    ∙ refused-answer a.kind a.self a.claim a.table.now (rw (c.window_months-window.ensures, c.rate_table-table.ensures.kind_value, c.rate_table-table.ensures.numbers_value) at c.in_default.ensures.value) _ (rw (c.window_months-window.ensures, c.rate_table-table.ensures.kind_value, c.rate_table-table.ensures.numbers_value) at c.in_default.ensures.sums_after) c.in-Err-last_checks.refusal
    c.in-Err-last_checks.ensures

pub overflow_sub-result : goal.overflow_sub-result
overflow_sub-result c =
    let may : Withdrawable c.args.self.taken c.args.self.sums = last-passed _ _ _ c.in_default-last_checks.ensures in omega (arith, may.some)

pub each-requires : goal.each-requires
unfolding none table
each-requires c k l _ _ _ _ =
    let a = c.args in
    let checked = last-passed _ _ _ c.in_default-last_checks.ensures in
    let fits = small a.kind a.self a.claim a.table.now (rw (c.window_months-window.ensures, c.rate_table-table.ensures.kind_value, c.rate_table-table.ensures.numbers_value) at c.in_default.ensures.value) _ (rw (c.window_months-window.ensures, c.rate_table-table.ensures.kind_value, c.rate_table-table.ensures.numbers_value) at c.in_default.ensures.sums_after)
    (at-most-list 4294967295 a.table.now (λ k _. omega (arith, c.type_inv.table k))) in
    difference-fits a.self.sums c.add_to.new.sums checked.sums fits k l

pub returns : goal.returns
unfolding none table
returns c =
    let a = c.args in
    let share = c.add_to.new.sums in
    let checked = last-passed _ _ _ c.in_default-last_checks.ensures in
    let fits = small a.kind a.self a.claim a.table.now (rw (c.window_months-window.ensures, c.rate_table-table.ensures.kind_value, c.rate_table-table.ensures.numbers_value) at c.in_default.ensures.value) _ (rw (c.window_months-window.ensures, c.rate_table-table.ensures.kind_value, c.rate_table-table.ensures.numbers_value) at c.in_default.ensures.sums_after)
    (at-most-list 4294967295 a.table.now (λ k _. omega (arith, c.type_inv.table k))) in
    withdrawn-answer a.kind a.self a.claim a.table.now (rw (c.window_months-window.ensures, c.rate_table-table.ensures.kind_value, c.rate_table-table.ensures.numbers_value) at c.in_default.ensures.value) _ (rw (c.window_months-window.ensures, c.rate_table-table.ensures.kind_value, c.rate_table-table.ensures.numbers_value) at c.in_default.ensures.sums_after) c.in_default-last_checks.ensures
    c.each.result
    (each-is ◌-ℤ◌ a.self.sums share c.each.result c.each.ensures.result_len
    (λ k l. let h = c.each.ensures.by_place k l in let e = difference-is a.self.sums share checked.sums fits k l in search (rules, e)))
