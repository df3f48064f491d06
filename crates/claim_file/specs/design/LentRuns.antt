-- A file run whose study's sums are lent, so that a feed copies no study: with the list it makes up a run.
use Rattle.std.specs.Prelude.{List, ℤ}
use Rattle.study.specs.design.PreparedAdding.{lent_study}
use Rattle.claim_file.specs.Runs.{FileRun, stop_number, stop_block, stop_place}
use Rattle.claim_file.specs.declared.LentRun.{LentRun}

-- the run that it makes up with its sums
unfoldable pub with_sums : LentRun → List ℤ → FileRun
with_sums r sums =
    record { study = lent_study r.window.window r.taken sums; due = r.due; refused = stop_number r.stop; block = stop_block r.stop; place = stop_place r.stop }
