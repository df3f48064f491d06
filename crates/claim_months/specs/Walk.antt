-- Document 02, request No. 2: the month walk ends with the exposure.
use Rattle.std.specs.Prelude.{ℕ, zero, suc, ◌≤◌, ◌<◌, ◌≡◌, false, List, [], ◌∷◌, ltb}
use Rattle.basics.specs.Pick.{pick}
use Rattle.calendar.specs.Calendar.{last_day_number}
use Rattle.claim_months.specs.declared.Claim.{Claim}
use Rattle.claim_months.specs.Claim.{claim_check}
use Rattle.claim_months.specs.ClaimMonths.{month_first}
use Rattle.claim_months.specs.Exposure.{exposed_to, meets, MonthRecord, month_record, month_records}

-- the walk over claim months from k on, n at the most: it stops at the first one that starts after the last exposed day, if there is one
unfoldable pub walk_from : Claim → ℕ → ℕ → ℕ → ℕ → List MonthRecord
walk_from c b e k zero = []
walk_from c b e k (suc n) =
    pick (ltb (exposed_to c e) (month_first c k)) []
    (pick (meets c b e k) (month_record c b e k ∷ walk_from c b e (suc k) n) (walk_from c b e (suc k) n))

-- it gives the month records, of every claim that passes its checks and every window; no later claim month meets the exposure; and claim month 1,801
-- starts after the calendar, and so after every exposed day of a window in it: 1,800 steps never cut a walk short. `proofs/Walk.antt` proves it
pub record MonthWalk (c : Claim) (b e : ℕ) : Type 0 where
  pub gives : walk_from c b e 1 1800 ≡ month_records c b e
  pub none_later : (k j : ℕ) → 1 ≤ k → k ≤ j → exposed_to c e < month_first c k → meets c b e j ≡ false
  pub outside : last_day_number < month_first c 1801
  pub never_short : e ≤ last_day_number → exposed_to c e < month_first c 1801

abbrev pub MonthWalks : Type 0
MonthWalks = (c : Claim) (b e : ℕ) → claim_check c ≡ 0 → MonthWalk c b e
