-- Document 01: the check of V keeps NaN out. Whatever rates, months and T, the call for the reserve factor answers no NaN. `proofs/Number.antt` proves it
use Rattle.std.specs.Prelude.{ℕ, false, ◌≡◌, List, Float, is_nan}
use Rattle.valuation.specs.Reserve.{reserve_in}
use Rattle.valuation.specs.declared.Reserve.TheVariants.{Factor}

abbrev pub FactorIsNumber : Type 0
FactorIsNumber =
    (rates : List ℕ) (cell first : ℕ) (t : List ℕ) (months : ℕ) (v x : Float) → reserve_in rates cell first t months v ≡ Factor x → is_nan x ≡ false
