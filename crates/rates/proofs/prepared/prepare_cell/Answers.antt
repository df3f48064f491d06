-- `rates::prepared::prepare_cell` meets its contract: the rates of a sound cell are small enough for their running sums. Assumes nothing.
use mathlib.Core.Path.{◌≡◌, sym, ◌∙◌}
use mathlib.Core.Bool.{true}
use native.Mathlib.Omega.{arith}
use lib.ListN.{length, length-take, drop}
use lib.Seq.{drop_at}
use Rattle.rates.specs.Rates.{rates_sound}
use Rattle.rates.specs.design.Prepared.{prepared_cell}
use Rattle.rates.proofs.Preparing.{part_small, cell-prepared}
use Rattle.rates.proofs.prepared.prepare_cell.Goals as goal

pub returns-then-not-sound : goal.returns-then-not-sound
unfolding prepared_cell
returns-then-not-sound c = simp (← c.sound.ensures, c.if-not-sound.true)

pub run_sums-requires : goal.run_sums-requires
run_sums-requires c =
    let passed : rates_sound c.args.cell.now 0 ≡ true = sym c.sound.ensures ∙ c.if-not-sound.false in
    record { numbers_len_bound = simp length-take (omega arith); by_index = part_small c.args.cell.now c.requires passed 0 }

pub run_sums-requires-2 : goal.run_sums-requires-2
run_sums-requires-2 c =
    let passed : rates_sound c.args.cell.now 0 ≡ true = sym c.sound.ensures ∙ c.if-not-sound.false in
    let first-length : length c.run_sums.new.numbers ≡ 479 = c.run_sums.auto.numbers ∙ simp length-take (omega arith) in
    record {
      numbers_len_bound = simp length-take (omega arith);
      by_index = rw (drop_at c.run_sums.new.numbers (drop 479 c.args.cell.now) 479 first-length)
          (part_small c.args.cell.now c.requires passed 479);
    }

pub returns : goal.returns
returns c =
    let passed : rates_sound c.args.cell.now 0 ≡ true = sym c.sound.ensures ∙ c.if-not-sound.false in
    let first-length : length c.run_sums.new.numbers ≡ 479 = c.run_sums.auto.numbers ∙ simp length-take (omega arith) in
    cell-prepared c.args.cell.now c.requires passed c.run_sums.new.numbers c.run_sums-2.new.numbers first-length
    c.run_sums.ensures c.run_sums-2.ensures
