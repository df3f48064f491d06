-- 64 bits hold every number of the rows, and a prepared table gives the rows of its rates.
use Rattle.std.specs.Prelude.{◌≡◌, ℕ, List, map}
use Rattle.rates.specs.declared.Kind.TheVariants.{Plain, Prepared}
use Rattle.rates.specs.design.Prepared.{prepared_of}
use Rattle.by_duration.specs.Wrapped.{as64}
use Rattle.by_duration.specs.DurationRuns.{duration_rows, duration_numbers}

-- With rates 64 bits hold every number of the rows, and the prepared table of some rates gives what the rates give, of every file;
-- `proofs/SameRows.antt` proves it
pub record SameRows (n : ℕ) (rates bytes : List ℕ) : Type 0 where
  pub fits : map as64 (duration_rows Plain n rates bytes) ≡ duration_rows Plain n rates bytes
  pub prepared_rows : duration_rows Prepared n (prepared_of rates) bytes ≡ duration_rows Plain n rates bytes
  pub prepared : duration_numbers Prepared n (prepared_of rates) bytes ≡ duration_numbers Plain n rates bytes
