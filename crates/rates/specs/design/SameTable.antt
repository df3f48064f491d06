-- A prepared table has the checks and rates of the rates that were prepared.
use Rattle.std.specs.Prelude.{ℕ, ◌≡◌, List}
use Rattle.rates.specs.declared.Kind.TheVariants.{Plain, Prepared}
use Rattle.rates.specs.design.Prepared.{table_check_of, recovery_of, death_of, prepared_of}

-- Its checks and rates are those of the rates, for every list of numbers and every cell; `proofs/SameTable.antt` proves it
pub record SameTable (rates : List ℕ) : Type 0 where
  pub same_check : (cell : ℕ) → table_check_of Prepared (prepared_of rates) cell ≡ table_check_of Plain rates cell
  pub same_recovery : (cell d : ℕ) → table_check_of Plain rates cell ≡ 0 → recovery_of Prepared (prepared_of rates) cell d ≡ recovery_of Plain rates cell d
  pub same_death : (cell d : ℕ) → table_check_of Plain rates cell ≡ 0 → death_of Prepared (prepared_of rates) cell d ≡ death_of Plain rates cell d
