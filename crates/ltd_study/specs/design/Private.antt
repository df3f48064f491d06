-- What only private functions' contracts need.
use Rattle.std.specs.Prelude.{ℕ, ◌≤◌, ◌<◌, ◌≡◌, true, false}
use Rattle.ltd_study.specs.declared.input.Filled.{Filled}

-- a list of so many bytes filled: full unless the input is over, and not full where it is, or where a read failed
pub record Filling (room : ℕ) (f : Filled) : Type 0 where
  pub within : f.count ≤ room
  pub full : f.over ≡ false → f.count ≡ room
  pub left : f.over ≡ true → f.count < room
  pub short : f.failed ≡ true → f.count < room
