-- Document 02, request No. 14, the small company rule (source document 003, section D): a carrier with few open claims is exempt, and keeps the table.
use Rattle.std.specs.Prelude.{ℕ, zero, suc, ◌-◌, ◌*◌, ◌/◌, ◌%◌, min, max, Bool, true, false, ◌&&◌, List, [], ◌∷◌, length, get_or, leb, ltb, eqb}
use Rattle.basics.specs.Pick.{pick}
use Rattle.basics.specs.Checks.{check, ◌then◌, refuse_date, refuse_block}
use Rattle.basics.specs.Tables.{table}
use Rattle.calendar.specs.declared.Date.{Date}
use Rattle.calendar.specs.Calendar.{is_date, day_number}
use Rattle.claim_months.specs.declared.Claim.{Claim}
use Rattle.claim_months.specs.Claim.{claim_check}
use Rattle.claim_file.specs.Record.{claim_from, record_padded}
use Rattle.small_company.specs.Company.{CompanyAnswer}

-- The claim list: records of 32 bytes, one after the other. The n claims from record k on, and all of them
unfoldable pub claims_from_record : List ℕ → ℕ → ℕ → List Claim
claims_from_record bytes k zero = []
claims_from_record bytes k (suc n) = claim_from bytes (32 * k) ∷ claims_from_record bytes (suc k) n

unfoldable pub listed_claims : List ℕ → List Claim
listed_claims bytes = claims_from_record bytes 0 (length bytes / 32)

-- the zero bytes of the n records from record k on are zero
unfoldable pub padded_from : List ℕ → ℕ → ℕ → Bool
padded_from bytes k zero = true
padded_from bytes k (suc n) = record_padded bytes (32 * k) && padded_from bytes (suc k) n

-- 11: a part record, or a wrong zero byte anywhere in the list
unfoldable pub list_sound : List ℕ → Bool
list_sound bytes = eqb (length bytes % 32) 0 && padded_from bytes 0 (length bytes / 32)

-- the number of the first claim that fails a check of its own, or 0
unfoldable pub claims_check : List Claim → ℕ
claims_check [] = 0
claims_check (c ∷ cs) = claim_check c then claims_check cs

-- a bad valuation date first, then the list, then its claims, closed ones too
unfoldable pub company_check : Date → List ℕ → ℕ
company_check d bytes =
    check (is_date d) refuse_date
    then check (list_sound bytes) refuse_block
    then claims_check (listed_claims bytes)

-- the same day two years before; 29 February becomes 28
unfoldable pub two_years_before : Date → Date
two_years_before d = record { year = d.year - 2; month = d.month; day = pick (eqb d.month 2 && eqb d.day 29) 28 d.day }

-- the first day that counts as within two years: that day, or the calendar's first day where it lies before 1950
unfoldable pub first_within : Date → ℕ
first_within d = pick (leb 1952 d.year) (day_number (two_years_before d)) 0

-- open, and disabled within two years of the valuation date; or earlier. Claims disabled after the valuation date count in neither
unfoldable pub open_by : Date → Claim → Bool
open_by d c = eqb c.status 0 && leb (day_number c.disability) (day_number d)

unfoldable pub is_recent : Date → Claim → Bool
is_recent d c = open_by d c && leb (first_within d) (day_number c.disability)

unfoldable pub is_earlier : Date → Claim → Bool
is_earlier d c = open_by d c && ltb (day_number c.disability) (first_within d)

-- the claims of a list that have a property
unfoldable pub those : (Claim → Bool) → List Claim → List Claim
those p [] = []
those p (c ∷ cs) = pick (p c) (c ∷ those p cs) (those p cs)

-- both counts
unfoldable pub recent_count : Date → List ℕ → ℕ
recent_count d bytes = length (those (is_recent d) (listed_claims bytes))

unfoldable pub earlier_count : Date → List ℕ → ℕ
earlier_count d bytes = length (those (is_earlier d) (listed_claims bytes))

-- exempt: fewer than 50 recent and fewer than 200 earlier
unfoldable pub is_exempt : Date → List ℕ → Bool
is_exempt d bytes = ltb (recent_count d bytes) 50 && ltb (earlier_count d bytes) 200

-- ten times the difference of a new T and the old one, larger less smaller, exceeds the old
unfoldable pub moves_far : ℕ → ℕ → Bool
moves_far new old = ltb old (10 * (max new old - min new old))

-- the first group in which it does, of the n groups from place k on, or 0
unfoldable pub first_moved : List ℕ → List ℕ → ℕ → ℕ → ℕ
first_moved new old k zero = 0
first_moved new old k (suc n) = pick (moves_far (get_or new k 0) (get_or old k 0)) (suc k) (first_moved new old (suc k) n)

-- An exempt carrier gets 1,000,000 for all five T and group 0; another the new T and the first group that moved far. Zeros beside a refusal
unfoldable pub company_of : Date → List ℕ → List ℕ → List ℕ → CompanyAnswer
company_of d bytes new old =
    pick (eqb (company_check d bytes) 0)
    (record {
      refused = 0;
      exempt = is_exempt d bytes;
      recent = recent_count d bytes;
      earlier = earlier_count d bytes;
      group = pick (is_exempt d bytes) 0 (first_moved new old 0 5);
      t = pick (is_exempt d bytes) (table 5 (λ k. 1000000)) new;
    })
    (record { refused = company_check d bytes; exempt = false; recent = 0; earlier = 0; group = 0; t = table 5 (λ k. 0) })
