-- The file run, and the run with corrections, with a rate table of either kind: with the prepared table of some rates they are the papers' runs with
-- these rates.
use Rattle.std.specs.Prelude.{ℕ, List}
use Rattle.rates.specs.declared.Kind.{Kind}
use Rattle.study.specs.design.PreparedAdding.{added_with}
use Rattle.claim_file.specs.Run.{Adding}

-- adding with a table of a kind
abbrev pub adding_with : Kind → List ℕ → Adding
adding_with kind table s c = added_with kind s c table
