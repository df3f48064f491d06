-- What the small company rule says of every answer that is not a refusal (document 02, No. 14).
use Rattle.std.specs.Prelude.{ℕ, suc, ◌<◌, ◌≡◌, true, false, List, get_or}
use Rattle.calendar.specs.declared.Date.{Date}
use Rattle.claim_months.specs.declared.Claim.{Claim}
use Rattle.small_company.specs.SmallCompany.{company_check, is_recent, is_earlier, recent_count, earlier_count, moves_far, company_of}

-- What the rule says of every answer that is not a refusal. `proofs/SmallCompanyRule.antt` proves it
pub record SmallCompanyRule : Type 0 where
  -- exempt precisely when both counts are below their limits
  pub exempt_where : (d : Date) (bytes new old : List ℕ) → company_check d bytes ≡ 0
      → recent_count d bytes < 50 → earlier_count d bytes < 200 → (company_of d bytes new old).exempt ≡ true
  pub exempt_only : (d : Date) (bytes new old : List ℕ) → company_check d bytes ≡ 0
      → (company_of d bytes new old).exempt ≡ true → (recent_count d bytes < 50) × (earlier_count d bytes < 200)
  -- a claim counts in one of both counts at most
  pub one_count : (d : Date) (c : Claim) → is_recent d c ≡ true → is_earlier d c ≡ false
  -- the group told is the first that moved far, and 0 says that none did
  pub group_first : (d : Date) (bytes new old : List ℕ) (k : ℕ) → company_check d bytes ≡ 0 → (company_of d bytes new old).exempt ≡ false
      → (company_of d bytes new old).group ≡ suc k
      → (k < 5) × (moves_far (get_or new k 0) (get_or old k 0) ≡ true) × ((i : ℕ) → i < k → moves_far (get_or new i 0) (get_or old i 0) ≡ false)
  pub group_none : (d : Date) (bytes new old : List ℕ) (i : ℕ) → company_check d bytes ≡ 0 → (company_of d bytes new old).exempt ≡ false
      → (company_of d bytes new old).group ≡ 0 → i < 5 → moves_far (get_or new i 0) (get_or old i 0) ≡ false
