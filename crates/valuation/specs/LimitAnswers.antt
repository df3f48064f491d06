-- The answer of document 02, No. 9, by number: a refusal has its number and zeros.
use Rattle.std.specs.Prelude.{ℕ, List, [], ◌∷◌, Float, Result, Ok, Err}
use Rattle.basics.specs.declared.refusal.Refusal.{Refusal}
use Rattle.basics.specs.Refused.{number_of}
use Rattle.valuation.specs.Reserve.{float}
use Rattle.valuation.specs.declared.Limit.{Limit}

-- the set of T that the limit allows, with both totals
pub record LimitAnswer : Type 0 where
  pub refused : ℕ
  pub t : List ℕ
  pub given : Float
  pub replaced : Float

-- the answer that the code gives
abbrev pub limit_by_number : Result Limit Refusal → LimitAnswer
limit_by_number (Ok l) = record { refused = 0; t = l.t; given = l.given; replaced = l.replaced }
limit_by_number (Err r) = record { refused = number_of r; t = 0 ∷ 0 ∷ 0 ∷ 0 ∷ 0 ∷ []; given = float 0; replaced = float 0 }
