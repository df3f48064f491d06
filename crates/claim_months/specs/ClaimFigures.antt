-- The ◆ figures of document 01 about claims and months of exposure, as one statement about the definitions. Its proof is `claim-figures` of proofs/Figures.antt.
use Rattle.std.specs.Prelude.{ℕ, ◌+◌, ◌≡◌, true, List, [], ◌∷◌, ℤ, pos, negsuc}
use Rattle.calendar.specs.declared.Date.{Date}
use Rattle.calendar.specs.Calendar.{is_date, day_number}
use Rattle.claim_months.specs.declared.Claim.{Claim}
use Rattle.claim_months.specs.Claim.{termination_day, ep, first_duration, category, claim_check}
use Rattle.claim_months.specs.ClaimMonths.{month_first}
use Rattle.claim_months.specs.Exposure.{MonthRecord, thirtieths, month_records, weighted}
use Rattle.claim_months.specs.Span.{last_record, exposure_check}

-- the thirtieths of the first and of the last of some records
abbrev pub first_thirtieths : List MonthRecord → ℤ
first_thirtieths [] = pos 0
first_thirtieths (r ∷ rs) = thirtieths r

abbrev pub last_thirtieths : List MonthRecord → ℤ
last_thirtieths [] = pos 0
last_thirtieths (r ∷ rs) = thirtieths (last_record r rs)

-- of a claim with EP 90 that no check refuses in the window from b to e: the thirtieths of its first record, of its last one, and in all
pub record Exposed (c : Claim) (b e : Date) (first last all : ℤ) : Type 0 where
  pub elimination : ep c ≡ 90
  pub accepted : exposure_check c (day_number b) (day_number e) ≡ 0
  pub first_record : first_thirtieths (month_records c (day_number b) (day_number e)) ≡ first
  pub last_record_is : last_thirtieths (month_records c (day_number b) (day_number e)) ≡ last
  pub total : weighted (λ d. pos 1) (month_records c (day_number b) (day_number e)) ≡ all

abbrev pub date : ℕ → ℕ → ℕ → Date
date y m d = record { year = y; month = m; day = d }

abbrev pub missing : Date
missing = date 0 0 0

-- claims of cell 0, by their dates: open, settled (code 3) and recovered (code 1)
abbrev pub claim_of : Date → Date → Date → Date → ℕ → ℕ → Claim
claim_of disability bcd termination maximum status code =
    record { number = 0; disability = disability; bcd = bcd; termination = termination; maximum = maximum; status = status; code = code; cell = 0; benefit = 0 }

abbrev pub open_claim : Date → Date → Claim
open_claim disability bcd = claim_of disability bcd missing missing 0 0

abbrev pub settled_claim : Date → Date → Date → Date → Claim
settled_claim disability bcd termination maximum = claim_of disability bcd termination maximum 1 3

abbrev pub recovered_claim : Date → Date → Date → Date → Claim
recovered_claim disability bcd termination maximum = claim_of disability bcd termination maximum 1 1

-- the checks' number for a claim that has the date d as disability date, as BCD, as termination date, as maximum date
abbrev pub DateChecked : Date → ℕ → Type 0
DateChecked d n =
    (claim_check (settled_claim d (date 2002 1 1) (date 2003 1 1) missing) ≡ n)
    × (claim_check (settled_claim (date 1999 1 1) d (date 2003 1 1) missing) ≡ n)
    × (claim_check (settled_claim (date 1999 1 1) (date 2000 1 1) d missing) ≡ n)
    × (claim_check (settled_claim (date 1999 1 1) (date 2000 1 1) (date 2003 1 1) d) ≡ n)

-- an accepted claim with that EP starts at duration d
abbrev pub Starts : Claim → ℕ → ℕ → Type 0
Starts c days d = (ep c ≡ days) × (claim_check c ≡ 0) × (first_duration c ≡ d)

-- an accepted claim that ends so many days before its maximum date has category n
abbrev pub Ends : Claim → ℕ → ℕ → Type 0
Ends c days n = (claim_check c ≡ 0) × (termination_day c + days ≡ day_number c.maximum) × (category c ≡ n)

-- in the window 2009-01-01 to 2017-12-31
abbrev pub InWindow : Claim → ℤ → ℤ → ℤ → Type 0
InWindow c = Exposed c (date 2009 1 1) (date 2017 12 31)

-- claims with BCD 2011-01-29, and 2008-01-10, and the claim of seven days, settled 2011-02-16
abbrev pub late : Claim
late = open_claim (date 2010 10 31) (date 2011 1 29)

abbrev pub january : Date → Claim
january disability = open_claim disability (date 2008 1 10)

abbrev pub january_settled : Date → Claim
january_settled termination = settled_claim (date 2007 10 12) (date 2008 1 10) termination missing

abbrev pub seven_days : Claim
seven_days = settled_claim (date 2010 11 12) (date 2011 2 10) (date 2011 2 16) missing

pub record ClaimFigures : Type 0 where
  -- ◆ 2000-02-29 is a date, 2001-02-29 refused 2.
  pub leap_day : is_date (date 2000 2 29) ≡ true
  pub leap_day_accepted : DateChecked (date 2000 2 29) 0
  pub no_leap_day : DateChecked (date 2001 2 29) 2
  -- ◆ BCD 2011-01-29: next starts 02-26, 03-29, 04-28.
  pub start_2 : month_first late 2 ≡ day_number (date 2011 2 26)
  pub start_3 : month_first late 3 ≡ day_number (date 2011 3 29)
  pub start_4 : month_first late 4 ≡ day_number (date 2011 4 28)
  -- ◆ EP 14 refused 5; 15 and 44 start at duration 2, 45 at 3, 90 at 4, 180 at 7.
  pub ep_14 : (ep (january (date 2007 12 27)) ≡ 14) × (claim_check (january (date 2007 12 27)) ≡ 5)
  pub ep_15 : Starts (january (date 2007 12 26)) 15 2
  pub ep_44 : Starts (january (date 2007 11 27)) 44 2
  pub ep_45 : Starts (january (date 2007 11 26)) 45 3
  pub ep_90 : Starts (january (date 2007 10 12)) 90 4
  pub ep_180 : Starts (january (date 2007 7 14)) 180 7
  -- ◆ BCD 2008-01-10, open: first 9, last 21, total 3,240. Settled 2012-05-20: last 11; 2012-03-29: last 19.
  pub january_open : InWindow (january (date 2007 10 12)) (pos 9) (pos 21) (pos 3240)
  pub january_to_20 : InWindow (january_settled (date 2012 5 20)) (pos 9) (pos 11) (pos 1220)
  pub january_to_29 : InWindow (january_settled (date 2012 3 29)) (pos 9) (pos 19) (pos 1168)
  -- ◆ BCD 2008-06-28, open: first 28, last 2 (the appendix prints 29 and 1).
  pub june_open : InWindow (open_claim (date 2008 3 30) (date 2008 6 28)) (pos 28) (pos 2) (pos 3240)
  -- ◆ BCD 2011-02-10, settled 2011-02-16: 7; cut after 02-15: 8 and −1.
  pub seven : InWindow seven_days (pos 7) (pos 7) (pos 7)
  pub cut_eight : Exposed seven_days (date 2009 1 1) (date 2011 2 15) (pos 8) (pos 8) (pos 8)
  pub cut_minus_one : Exposed seven_days (date 2011 2 16) (date 2017 12 31) (negsuc 0) (negsuc 0) (negsuc 0)
  -- ◆ Recovery 45 days before the maximum date is max-out, at 46 recovery.
  pub days_45 : Ends (recovered_claim (date 2009 3 13) (date 2009 6 11) (date 2012 4 29) (date 2012 6 13)) 45 4
  pub days_46 : Ends (recovered_claim (date 2009 3 13) (date 2009 6 11) (date 2012 4 29) (date 2012 6 14)) 46 1
