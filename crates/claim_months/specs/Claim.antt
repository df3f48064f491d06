-- Document 01, Claim: EP, first duration, category, and the checks 2 to 5 in the table's order, with document 02's benefit.
use Rattle.std.specs.Prelude.{ℕ, ◌+◌, ◌-◌, ◌/◌, Bool, not, ◌&&◌, ◌||◌, leb, eqb}
use Rattle.calendar.specs.declared.Date.{Date}
use Rattle.basics.specs.Limits.{most_benefit}
use Rattle.basics.specs.Pick.{pick}
use Rattle.basics.specs.Checks.{check, ◌then◌, refuse_date, refuse_status, refuse_sequence, refuse_benefit, refuse_short_elimination}
use Rattle.calendar.specs.Calendar.{is_date, day_number}
use Rattle.claim_months.specs.declared.Claim.{Claim}

-- A missing date: year, month and day all zero
unfoldable pub is_missing : Date → Bool
is_missing d = eqb d.year 0 && eqb d.month 0 && eqb d.day 0

-- the status is closed
unfoldable pub is_closed : Claim → Bool
is_closed c = eqb c.status 1

-- the day numbers of BCD (benefit commencement date) and of the termination date
abbrev pub bcd_day : Claim → ℕ
bcd_day c = day_number c.bcd

abbrev pub termination_day : Claim → ℕ
termination_day c = day_number c.termination

-- EP, the elimination period: BCD minus disability date in days
unfoldable pub ep : Claim → ℕ
ep c = bcd_day c - day_number c.disability

-- The first duration
unfoldable pub first_duration : Claim → ℕ
first_duration c = (ep c + 15) / 30 + 1

-- two day numbers are n days apart or less
abbrev pub within_days : ℕ → ℕ → ℕ → Bool
within_days n a b = leb a (b + n) && leb b (a + n)

-- The category: max-out (4) if the termination date is 45 days or less before or after a known maximum date; else recovery (1) for code 6,
-- change of definition; else the code
unfoldable pub category : Claim → ℕ
category c =
    pick (not (is_missing c.maximum) && within_days 45 (termination_day c) (day_number c.maximum)) 4
    (pick (eqb c.code 6) 1 c.code)

-- 2, date: disability or BCD no date; closed and termination no date; maximum neither date nor missing
unfoldable pub dates_sound : Claim → Bool
dates_sound c =
    is_date c.disability && is_date c.bcd && (not (is_closed c) || is_date c.termination)
    && (is_date c.maximum || is_missing c.maximum)

-- 3, status: status above 1; open with a code, or with a termination that isn't missing; closed with code outside 1–6
unfoldable pub status_sound : Claim → Bool
status_sound c =
    leb c.status 1
    && pick (is_closed c) (leb 1 c.code && leb c.code 6) (eqb c.code 0 && is_missing c.termination)

-- 4, sequence: BCD before disability, or termination before BCD
unfoldable pub sequence_sound : Claim → Bool
sequence_sound c = leb (day_number c.disability) (bcd_day c) && (not (is_closed c) || leb (bcd_day c) (termination_day c))

-- 16, benefit: over 200, in hundreds of dollars a month (document 02, No. 7)
unfoldable pub benefit_sound : Claim → Bool
benefit_sound c = leb c.benefit most_benefit

-- what a claim weighs: its benefit; a 0 is kept in the record and weighs as 1
unfoldable pub weight : Claim → ℕ
weight c = pick (eqb c.benefit 0) 1 c.benefit

-- 5, short elimination: EP below 15
unfoldable pub ep_sound : Claim → Bool
ep_sound c = leb 15 (ep c)

-- the number of the first of the checks 2 to 5 that fails, or 0; 16 stands between 4 and 5
unfoldable pub claim_check : Claim → ℕ
claim_check c =
    check (dates_sound c) refuse_date
    then check (status_sound c) refuse_status
    then check (sequence_sound c) refuse_sequence
    then check (benefit_sound c) refuse_benefit
    then check (ep_sound c) refuse_short_elimination
