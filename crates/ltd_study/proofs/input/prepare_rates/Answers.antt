-- `ltd_study::input::prepare_rates` meets its contract: the rates and their mark are a part of the table. Assumes nothing.
use Prim.Native.Nat.{◌+◌, ◌≤◌, ◌<◌}
use native.Mathlib.Omega.{arith}
use lib.ListN.{length, set, length-set}
use Rattle.ltd_study.proofs.Rates.{prepared-first, prepared-rest}
use Rattle.ltd_study.proofs.input.prepare_rates.Goals as goal

pub returns : goal.returns
returns c =
    let call = c.prepare in
    let t = c.args.table.now in
    let n = c.args.rates in
    let h : n < length t = omega (arith, c.requires, c.told-table) in
    let l : n + 1 ≤ length (set t n 0) = omega (arith, length-set t n 0, h) in
    record { table_after = prepared-first t call.new.table n h call.auto.table call.ensures.table_after l; table_unchanged = prepared-rest t call.new.table n h call.auto.table call.ensures.table_after l }
