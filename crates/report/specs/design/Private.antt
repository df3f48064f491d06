-- What only private functions' contracts need: a text put at a place of a list.
use Rattle.std.specs.Prelude.{ℕ, ◌+◌, ◌≤◌, ◌≡◌, List, length}
use Rattle.std.proofs.lemmas.List.Edits.{sets}

-- a list with a text of at most so many bytes stored from a place on, and the place behind the text
pub record Put (most : ℕ) (old : List ℕ) (at : ℕ) (text new : List ℕ) (next : ℕ) : Type 0 where
  pub stored : new ≡ sets old at text
  pub behind : next ≡ at + length text
  pub within : length text ≤ most
