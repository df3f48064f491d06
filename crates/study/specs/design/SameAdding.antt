-- Adding with a table of either kind is document 01's adding.
use Rattle.std.specs.Prelude.{ℕ, ◌≡◌, List}
use Rattle.claim_months.specs.declared.Claim.{Claim}
use Rattle.rates.specs.declared.Kind.TheVariants.{Plain, Prepared}
use Rattle.rates.specs.design.Prepared.{prepared_of}
use Rattle.study.specs.declared.Study.{Study}
use Rattle.study.specs.Study.{added}
use Rattle.study.specs.design.PreparedAdding.{added_with}

-- Adding with plain rates is document 01's, and adding with a prepared table is adding with the rates that were prepared, for every study,
-- claim and list of rates, refusals included; `proofs/SameAdding.antt` proves both
pub record SameAdding : Type 0 where
  pub plain : (s : Study) (c : Claim) (rates : List ℕ) → added_with Plain s c rates ≡ added s c rates
  pub prepared : (s : Study) (c : Claim) (rates : List ℕ) → added_with Prepared s c (prepared_of rates) ≡ added s c rates
