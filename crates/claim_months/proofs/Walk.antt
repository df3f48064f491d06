-- The month walk that ends with the exposure gives the month records.
-- Assumes nothing.
use Prim.Native.Nat.{ℕ, zero, suc, ◌+◌, ◌-◌, ◌≤◌, ◌<◌, min}
use mathlib.Core.Path.{◌≡◌, refl, sym}
use mathlib.Core.Bool.{false, and-false}
use mathlib.Core.List.{[]}
use lib.Dec.{ltb}
use borrow.Author.Tests.{lt-leb}
use Rattle.basics.specs.Pick.{pick}
use Rattle.basics.proofs.Tests.{tests, by, pick_is}
use Rattle.claim_months.specs.declared.Claim.{Claim}
use Rattle.claim_months.specs.Claim.{is_closed, termination_day}
use Rattle.claim_months.specs.ClaimMonths.{month_first}
use Rattle.claim_months.specs.Exposure.{exposed_to, meets, records_from, month_records}
use Rattle.claim_months.specs.Walk.{walk_from, MonthWalks}
use Rattle.claim_months.proofs.Sound.{Sound, sound}
use Rattle.claim_months.proofs.Months.{starts-rise, months-end}

module _ (c : Claim) (ok : Sound c) (b e : ℕ) where
  -- a claim month that starts after the last exposed day doesn't meet the exposure, nor does one after it
  unmet : (j : ℕ) → exposed_to c e < month_first c j → meets c b e j ≡ false
  unfolding meets
  unmet j h = simp (lt-leb (month_first c j) (exposed_to c e) h, and-false)

  later : (k j : ℕ) → 1 ≤ k → k ≤ j → exposed_to c e < month_first c k → meets c b e j ≡ false
  later k j hk h l =
      let s : k + (j - k) ≡ j = omega tests in
      let r = rw s at (starts-rise c ok.bcd-date k (j - k) hk) in
      unmet j (omega tests)

  none : (n k j : ℕ) → 1 ≤ k → k ≤ j → exposed_to c e < month_first c k → records_from c b e j n ≡ []
  unfolding records_from
  none zero k j hk h l = refl
  none (suc n) k j hk h l = rw (later k j hk h l) (none n k (suc j) hk (omega tests) l)

  walks : (n k : ℕ) → 1 ≤ k → walk_from c b e k n ≡ records_from c b e k n
  unfolding walk_from records_from
  walks zero k hk = refl
  walks (suc n) k hk =
      let next = walks n (suc k) (omega tests) in
      rw next (pick_is (ltb (exposed_to c e) (month_first c k)) (λ q. sym (none (suc n) k k hk (omega tests) (omega tests))) (λ q. refl))

not_after : (c : Claim) (e : ℕ) → exposed_to c e ≤ e
unfolding exposed_to
not_after c e = by (is_closed c) (λ y. pick y (min e (termination_day c)) e ≤ e) (λ q. omega tests) (λ q. omega tests)

pub month-walks : MonthWalks
unfolding month_records
month-walks c b e h =
    let ok = sound c h in
    record {
      gives = walks c ok b e 1800 1 (omega tests);
      none_later = later c ok b e;
      outside = months-end c ok.bcd-date;
      never_short = λ h. let m = months-end c ok.bcd-date in let l = not_after c e in omega tests;
    }
