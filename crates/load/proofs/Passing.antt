-- A load's claims pass the checks 2 to 5 and 16, and their fields fit a record: the latest day that one has is 19,999 + 365 + 3,999.
-- Assumes nothing.
use Prim.Native.Nat.{ℕ, ◌+◌, ◌-◌, ◌≤◌, ◌<◌}
use mathlib.Core.Path.{◌≡◌, refl, ap, ◌∙◌}
use mathlib.Core.Bool.{true, not, ◌&&◌, ◌||◌, or-true}
use lib.Dec.{leb, eqb}
use borrow.Author.Tests.{le-leb}
use Rattle.basics.specs.Pick.{pick}
use Rattle.basics.specs.Checks.{◌then◌}
use Rattle.basics.proofs.Tests.{tests, by}
use Rattle.calendar.specs.Calendar.{is_date, day_number, date_of, last_day_number}
use Rattle.calendar.proofs.Laws.{number-of-date, date-of-day-is-date}
use Rattle.claim_months.specs.declared.Claim.{Claim}
use Rattle.claim_months.specs.Claim.{is_missing, is_closed, ep, dates_sound, status_sound, sequence_sound, benefit_sound, ep_sound, claim_check}
use Rattle.claim_file.specs.BlockAnswers.{no_date}
use Rattle.claim_file.specs.RoundTrip.{DateFits, ClaimFits}
use Rattle.claim_file.proofs.Files.{date-fits}
use Rattle.load.specs.Load.{disability_day, load_ep, load_status, days_to_termination, load_code, load_claim}

-- a claim of these days, status and code
abbrev claim_with : ℕ → ℕ → ℕ → ℕ → ℕ → ℕ → Claim
claim_with number d e s t k =
    let closed = eqb s 1 in
    record {
      number = number;
      disability = date_of d;
      bcd = date_of (d + e);
      termination = pick closed (date_of (d + e + t)) no_date;
      maximum = no_date;
      status = s;
      code = pick closed k 0;
      cell = 0;
      benefit = 0;
    }

module _ (number d e s t k : ℕ) (late : d + e + t ≤ last_day_number) (long : 15 ≤ e) (status : s ≤ 1) (low : 1 ≤ k) (high : k ≤ 5) where
  is-date : (n : ℕ) → n ≤ d + e + t → is_date (date_of n) ≡ true
  is-date n h = date-of-day-is-date n (omega tests)

  dates-so : dates_sound (claim_with number d e s t k) ≡ true
  unfolding dates_sound is_closed is_missing
  dates-so =
      let a = is-date d (omega tests) in
      let b = is-date (d + e) (omega tests) in
      by (eqb s 1) (λ y. (is_date (date_of d) && is_date (date_of (d + e)) && (not y || is_date (pick y (date_of (d + e + t)) no_date)) && (is_date no_date || true)) ≡ true)
      (λ q. simp (a, b, is-date (d + e + t) (omega tests), or-true)) (λ q. simp (a, b, or-true))

  status-so : status_sound (claim_with number d e s t k) ≡ true
  unfolding status_sound is_closed is_missing
  status-so =
      let a = le-leb s 1 status in
      by (eqb s 1)
      (λ y. (leb s 1 && pick y (leb 1 (pick y k 0) && leb (pick y k 0) 6) (eqb (pick y k 0) 0 && is_missing (pick y (date_of (d + e + t)) no_date))) ≡ true)
      (λ q. simp (a, le-leb 1 k low, le-leb k 6 (omega tests))) (λ q. simp a)

  sequence-so : sequence_sound (claim_with number d e s t k) ≡ true
  unfolding sequence_sound is_closed
  sequence-so =
      let a = number-of-date d in
      let b = number-of-date (d + e) in
      let c = number-of-date (d + e + t) in
      let f = le-leb (day_number (date_of d)) (day_number (date_of (d + e))) (omega tests) in
      let g = le-leb (day_number (date_of (d + e))) (day_number (date_of (d + e + t))) (omega tests) in
      by (eqb s 1)
      (λ y. (leb (day_number (date_of d)) (day_number (date_of (d + e))) && (not y || leb (day_number (date_of (d + e))) (day_number (pick y (date_of (d + e + t)) no_date)))) ≡ true)
      (λ q. simp (f, g)) (λ q. simp f)

  ep-so : ep_sound (claim_with number d e s t k) ≡ true
  unfolding ep_sound ep
  ep-so =
      let a = number-of-date d in
      let b = number-of-date (d + e) in
      le-leb 15 (day_number (date_of (d + e)) - day_number (date_of d)) (omega tests)

  all_pass : claim_check (claim_with number d e s t k) ≡ 0
  unfolding claim_check benefit_sound ◌then◌
  all_pass = rw (dates-so, status-so, sequence-so, ep-so)

  day_fits : (n : ℕ) → n ≤ d + e + t → DateFits (date_of n)
  day_fits n h = date-fits (date_of n) (is-date n h)

  missing-fits : DateFits no_date
  missing-fits = record { year_fits = omega tests; month_fits = omega tests; day_fits = omega tests }

  all_fit : number < 4294967296 → ClaimFits (claim_with number d e s t k)
  all_fit n =
      record {
        number_fits = n;
        disability_fits = day_fits d (omega tests);
        bcd_fits = day_fits (d + e) (omega tests);
        termination_fits = by (eqb s 1) (λ y. DateFits (pick y (date_of (d + e + t)) no_date)) (λ q. day_fits (d + e + t) (omega tests)) (λ q. missing-fits);
        maximum_fits = missing-fits;
        status_fits = omega tests;
        code_fits = by (eqb s 1) (λ y. pick y k 0 < 256) (λ q. omega tests) (λ q. omega tests);
        cell_fits = omega tests;
      }

module _ (x number : ℕ) where
  with-days : load_claim x number ≡ claim_with number (disability_day x) (load_ep x) (load_status x) (days_to_termination x) (load_code x)
  unfolding load_claim
  with-days = refl

  late : disability_day x + load_ep x + days_to_termination x ≤ last_day_number
  unfolding disability_day load_ep days_to_termination
  late = omega tests

  long : 15 ≤ load_ep x
  unfolding load_ep
  long = omega tests

  status : load_status x ≤ 1
  unfolding load_status
  status = omega tests

  code-low : 1 ≤ load_code x
  unfolding load_code
  code-low = omega tests

  code-high : load_code x ≤ 5
  unfolding load_code
  code-high = omega tests

  pub claim-passes : claim_check (load_claim x number) ≡ 0
  claim-passes =
      ap claim_check with-days
      ∙ all_pass number (disability_day x) (load_ep x) (load_status x) (days_to_termination x) (load_code x) late long status code-low code-high

  pub claim-fits : number < 4294967296 → ClaimFits (load_claim x number)
  claim-fits n =
      rw with-days (all_fit number (disability_day x) (load_ep x) (load_status x) (days_to_termination x) (load_code x) late long status code-low code-high n)
