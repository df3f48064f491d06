-- What a call answers where a lent list is too short, and what the list holds then.
use Rattle.std.specs.Prelude.{ℕ, List, length, ltb}
use Rattle.basics.specs.Limits.{no_form}
use Rattle.basics.specs.Pick.{pick}

-- a lent list shorter than asked for is answered 255, and keeps what it holds
abbrev pub answered : {A : Type 0} → ℕ → List A → ℕ → ℕ
answered asked old number = pick (ltb (length old) asked) no_form number

abbrev pub stored : {A : Type 0} → ℕ → List A → List A → List A
stored asked old new = pick (ltb (length old) asked) old new
