-- Only for the contracts of private functions: the last two draws of a claim.
use Rattle.std.specs.Prelude.{ℕ, ◌+◌, ◌%◌, Bool}
use Rattle.basics.specs.Pick.{pick}
use Rattle.calendar.specs.Calendar.{date_of}
use Rattle.claim_file.specs.BlockAnswers.{no_date}
use Rattle.load.specs.declared.Ending.{Ending}
use Rattle.load.specs.Load.{draw}

-- termination date, code and the x reached, of a claim with that BCD whose third draw set x
unfoldable pub ending_of : Bool → ℕ → ℕ → Ending
ending_of closed bcd x =
    record {
      termination = pick closed (date_of (bcd + draw x % 4000)) no_date;
      code = pick closed (1 + draw (draw x) % 5) 0;
      x = draw (draw x);
    }
