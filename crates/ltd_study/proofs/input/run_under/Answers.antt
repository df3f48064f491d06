-- `ltd_study::input::run_under` meets its contract: the rates that were read, prepared, and the run under them. Assumes nothing.
use Prim.Native.Nat.{◌+◌}
use lib.ListN.{take}
use Rattle.ltd_study.proofs.Runs.{under-rates}
use Rattle.ltd_study.proofs.input.run_under.Goals as goal

pub returns : goal.returns
returns g c =
    let n = c.rates_of-rates.result in
    under-rates _ _ n c.rates_of-rates.new.table (take (n + 1) c.prepare_rates.new.table) _ c.rates_of-rates.ensures.rates_read
    c.prepare_rates.ensures.table_after c.run_input.ensures
