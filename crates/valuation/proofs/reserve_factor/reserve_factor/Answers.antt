-- `valuation::reserve_factor::reserve_factor` meets its contract: what the checks answer decides, and past them the months are in range. Assumes nothing.
use mathlib.Core.Path.{sym}
use Rattle.valuation.specs.Reserve.{reserve_of}
use Rattle.valuation.proofs.AnswerTests.{reserve-refused, reserve-found}
use Rattle.valuation.proofs.ReserveLaws.{reserve-passed}
use Rattle.valuation.proofs.reserve_factor.reserve_factor.Goals as goal

pub returns-in-Err : goal.returns-in-Err
returns-in-Err c = rw c.from.ensures (reserve-refused _ _ _ _ _ _ _ c.in-Err.ensures)

pub invariant_of-checked : goal.invariant_of-checked
invariant_of-checked c =
    let p = reserve-passed _ _ _ _ _ (sym c.in-Ok.ensures) in
    record { table_sound = p.0; first_bound = p.1; months_bound = p.2 }

pub returns-in-Ok : goal.returns-in-Ok
unfolding reserve_of
returns-in-Ok c = rw c.after.ensures (reserve-found _ _ _ _ _ _ c.in-Ok.ensures)
