-- What the private functions of this layer answer, in day numbers: b is the first day that counts as within two years, e the valuation date.
use Rattle.std.specs.Prelude.{ℕ, ◌+◌, Bool, ◌&&◌, List, length, leb, ltb, eqb, Result, Ok, Err}
use Rattle.basics.specs.Pick.{pick}
use Rattle.basics.specs.Tables.{table}
use Rattle.calendar.specs.Calendar.{day_number}
use Rattle.claim_months.specs.declared.Claim.{Claim}
use Rattle.small_company.specs.Company.{CompanyAnswer}
use Rattle.small_company.specs.declared.Counts.{Counts}
use Rattle.small_company.specs.SmallCompany.{those, claims_check, first_moved}

-- open, and disabled by the day e: on b or later, or before it
unfoldable pub recent_in : ℕ → ℕ → Claim → Bool
recent_in b e c = (eqb c.status 0 && leb (day_number c.disability) e) && leb b (day_number c.disability)

unfoldable pub earlier_in : ℕ → ℕ → Claim → Bool
earlier_in b e c = (eqb c.status 0 && leb (day_number c.disability) e) && ltb (day_number c.disability) b

-- both counts of some claims, and both with one more claim
unfoldable pub counts_of : ℕ → ℕ → List Claim → Counts
counts_of b e cs = record { recent = length (those (recent_in b e) cs); earlier = length (those (earlier_in b e) cs) }

unfoldable pub with_one : ℕ → ℕ → Counts → Claim → Counts
with_one b e n c = record { recent = n.recent + pick (recent_in b e c) 1 0; earlier = n.earlier + pick (earlier_in b e c) 1 0 }

-- both counts, or the number of the first check that failed
unfoldable pub counted_of : ℕ → ℕ → List Claim → Result Counts ℕ
counted_of b e cs = pick (eqb (claims_check cs) 0) (Ok (counts_of b e cs)) (Err (claims_check cs))

-- the answer for both counts
unfoldable pub exempt_by : Counts → Bool
exempt_by n = ltb n.recent 50 && ltb n.earlier 200

unfoldable pub judged_of : Counts → List ℕ → List ℕ → CompanyAnswer
judged_of n new old =
    record {
      refused = 0;
      exempt = exempt_by n;
      recent = n.recent;
      earlier = n.earlier;
      group = pick (exempt_by n) 0 (first_moved new old 0 5);
      t = pick (exempt_by n) (table 5 (λ k. 1000000)) new;
    }
