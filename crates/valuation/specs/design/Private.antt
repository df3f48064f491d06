-- What the private functions of this layer answer: a refusal handed on, both totals of the first open claims, and where a search ends.
use Rattle.std.specs.Prelude.{ℕ, List, eqb, ℤ, Float, Result, Ok, Err}
use Rattle.basics.specs.Limits.{most_claims}
use Rattle.basics.specs.Pick.{pick}
use Rattle.basics.specs.Checks.{refuse_rate_table, refuse_cell, refuse_rate, refuse_valuation, refuse_discount}
use Rattle.valuation.specs.ReserveLimit.{open_claims_check, reserve_total}
use Rattle.valuation.specs.Factor.{smallest}
use Rattle.valuation.specs.WantedCount.{reaches_wanted}
use Rattle.valuation.specs.declared.reserve_limit.Totals.{Totals}

-- the number of a refusal of the factor call, handed on: 6, 7, 8 or 12, and 13 for any other
unfoldable pub handed_on : ℕ → ℕ
handed_on n =
    pick (eqb n 6) refuse_rate_table (pick (eqb n 7) refuse_cell (pick (eqb n 8) refuse_rate (pick (eqb n 12) refuse_valuation refuse_discount)))

-- the total reserves of the first n claims with two sets of T, or the number of the first check that failed
unfoldable pub totals_of : List ℕ → List ℕ → List ℕ → List ℕ → Float → ℕ → Result Totals ℕ
totals_of rates list t other v n =
    pick (eqb (open_claims_check rates list v n) 0)
    (Ok (record { given = reserve_total rates list t v n; replaced = reserve_total rates list other v n }))
    (Err (open_claims_check rates list v n))

-- the smallest count up to 500,000 whose T reaches the wanted one; 500,001 where none does
unfoldable pub first_reaching : ℕ → ℤ → ℕ → ℕ
first_reaching g e wanted =
    pick (reaches_wanted g e wanted most_claims) (smallest (reaches_wanted g e wanted) most_claims) 500001
