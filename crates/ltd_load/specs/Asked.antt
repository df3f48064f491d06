-- What the words of a call ask for, where they are right: a seed and a size that a load has, and a window. Nothing can say which words the program
-- was started with.
use Rattle.std.specs.Prelude.{ℕ, ◌*◌, ◌≤◌, ◌≡◌, true, List, take, drop, None, Option, Some}
use Rattle.basics.specs.Limits.{most_claims}
use Rattle.calendar.specs.declared.Date.{Date}
use Rattle.claim_months.specs.Windows.{dates_window}
use Rattle.claim_file.specs.declared.WindowDates.{WindowDates}
use Rattle.load.specs.Load.{seed_sound, load_file}
use Rattle.ltd_load.specs.declared.Asked.{Asked}

abbrev pub SeedAsked : Option ℕ → Type 0
SeedAsked (Some n) = seed_sound n ≡ true
SeedAsked None = Unit {0}

abbrev pub SizeAsked : Option ℕ → Type 0
SizeAsked (Some n) = n ≤ most_claims
SizeAsked None = Unit {0}

abbrev pub LastAsked : Date → Option Date → Type 0
LastAsked first (Some last) = dates_window first last ≡ true
LastAsked first None = Unit {0}

pub record LoadAsked (a : Asked) : Type 0 where
  pub seed_so : seed_sound a.seed ≡ true
  pub size_so : a.size ≤ most_claims
  pub window_so : dates_window a.first a.last ≡ true

abbrev pub SoundAsked : Option Asked → Type 0
SoundAsked (Some a) = LoadAsked a
SoundAsked None = Unit {0}

-- the claim file asked for, and its block with a number
unfoldable pub file_asked : Asked → List ℕ
file_asked a = let w : WindowDates = record { first = a.first; last = a.last } in load_file w a.seed a.size

unfoldable pub block_asked : Asked → ℕ → List ℕ
block_asked a n = take 512 (drop (512 * n) (file_asked a))
