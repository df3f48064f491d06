-- Document 01, Months of exposure: the month records of a claim in the window from day b to day e, both included.
use Rattle.std.specs.Prelude.{ℕ, zero, suc, ◌+◌, ◌-◌, min, max, Bool, ◌&&◌, ◌||◌, List, [], ◌∷◌, leb, ltb, eqb, ℤ, pos, ◌+ℤ◌, ◌*ℤ◌}
use Rattle.std.proofs.Math.IntN.{sub_ℕ}
use Rattle.basics.specs.Pick.{pick}
use Rattle.claim_months.specs.declared.Claim.{Claim}
use Rattle.claim_months.specs.Claim.{is_closed, bcd_day, termination_day, category, first_duration}
use Rattle.claim_months.specs.ClaimMonths.{month_first, month_last}

-- The claim is closed in the window: closed with termination t in b..e
unfoldable pub closed_in : Claim → ℕ → ℕ → Bool
closed_in c b e = is_closed c && leb b (termination_day c) && leb (termination_day c) e

-- f: it is exposed from the later of BCD and b
unfoldable pub exposed_from : Claim → ℕ → ℕ
exposed_from c b = max (bcd_day c) b

-- l: to the earlier of e and t, t only if closed
unfoldable pub exposed_to : Claim → ℕ → ℕ
exposed_to c e = pick (is_closed c) (min e (termination_day c)) e

-- claim month k meets f..l; no month does if f > l
unfoldable pub meets : Claim → ℕ → ℕ → ℕ → Bool
meets c b e k =
    leb (exposed_from c b) (exposed_to c e) && leb (month_first c k) (exposed_to c e) && leb (exposed_from c b) (month_last c k)

-- B: 0 if s ≥ b, else 30 − (p − b + 1)
unfoldable pub month_b : ℕ → ℕ → ℕ → ℕ
month_b b s p = pick (leb b s) 0 (30 - (p - b + 1))

-- U in the closing month: 30 in category recovery (1) or death (2); else with t on day 27 or later, 30 − (p − t); else min(30, t − s + 1)
unfoldable pub closing_u : Claim → ℕ → ℕ → ℕ
closing_u c s p =
    pick (eqb (category c) 1 || eqb (category c) 2) 30
    (pick (leb 27 c.termination.day) (30 - (p - termination_day c)) (min 30 (termination_day c - s + 1)))

-- U: 30 if l > p; else, in the last month, the closing month's U if the claim is closed in the window, and 30 − (p − l) if not
unfoldable pub month_u : Claim → ℕ → ℕ → ℕ → ℕ → ℕ
month_u c b e s p = pick (ltb p (exposed_to c e)) 30 (pick (closed_in c b e) (closing_u c s p) (30 - (p - exposed_to c e)))

-- the closing month holds t of a claim closed in the window; its record has the category, every other 0
unfoldable pub closing_category : Claim → ℕ → ℕ → ℕ → ℕ → ℕ
closing_category c b e s p = pick (closed_in c b e && leb s (termination_day c) && leb (termination_day c) p) (category c) 0

-- A month record, with thirtieths U − B
pub record MonthRecord : Type 0 where
  pub duration : ℕ
  pub first : ℕ
  pub last : ℕ
  pub U : ℕ
  pub B : ℕ
  pub category : ℕ

abbrev pub thirtieths : MonthRecord → ℤ
thirtieths r = sub_ℕ r.U r.B

-- the record of claim month k
unfoldable pub month_record : Claim → ℕ → ℕ → ℕ → MonthRecord
month_record c b e k =
    record {
      duration = first_duration c + (k - 1);
      first = max (month_first c k) (exposed_from c b);
      last = min (month_last c k) (exposed_to c e);
      U = month_u c b e (month_first c k) (month_last c k);
      B = month_b b (month_first c k) (month_last c k);
      category = closing_category c b e (month_first c k) (month_last c k);
    }

-- the records of the n claim months from claim month k on
unfoldable pub records_from : Claim → ℕ → ℕ → ℕ → ℕ → List MonthRecord
records_from c b e k zero = []
records_from c b e k (suc n) =
    pick (meets c b e k) (month_record c b e k ∷ records_from c b e (suc k) n) (records_from c b e (suc k) n)

-- The month records: one for every claim month that meets f..l. Claim month 1,801 starts after 2099-12-31 (`MonthWalk` in `Walk`)
unfoldable pub month_records : Claim → ℕ → ℕ → List MonthRecord
month_records c b e = records_from c b e 1 1800

-- the sum over records of thirtieths, each times a weight of its duration
unfoldable pub weighted : (ℕ → ℤ) → List MonthRecord → ℤ
weighted w [] = pos 0
weighted w (r ∷ rs) = w r.duration *ℤ thirtieths r +ℤ weighted w rs

-- the sum over closing months of a weight of duration and category
unfoldable pub closings : (ℕ → ℕ → ℕ) → List MonthRecord → ℕ
closings w [] = 0
closings w (r ∷ rs) = pick (eqb r.category 0) 0 (w r.duration r.category) + closings w rs
