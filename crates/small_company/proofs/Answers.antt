-- The answer by the checks and by both counts.
-- Assumes nothing.
use Prim.Native.Nat.{ℕ}
use mathlib.Core.Path.{◌≡◌, sym, ap, ◌∙◌}
use mathlib.Core.Bool.{true, false}
use mathlib.Core.List.{List}
use borrow.Author.Tests.{eqb-true, ne_eqb}
use lib.Dec.{eqb}
use Rattle.basics.specs.declared.refusal.Refusal.{Refusal}
use Rattle.basics.specs.declared.refusal.Refusal.TheVariants as refusal
use Rattle.basics.specs.Pick.{pick}
use Rattle.basics.specs.Checks.{◌then◌}
use Rattle.basics.specs.Refused.{number_of}
use Rattle.basics.proofs.Tests.{tests, by}
use Rattle.calendar.specs.declared.Date.{Date}
use Rattle.calendar.specs.Calendar.{is_date, day_number}
use Rattle.claim_months.specs.declared.Claim.{Claim}
use Rattle.small_company.specs.declared.Counts.{Counts}
use Rattle.small_company.specs.Company.{company_by_number}
use Rattle.small_company.specs.SmallCompany.{listed_claims, list_sound, claims_check, company_check, first_within, open_by, is_recent, is_earlier, recent_count, earlier_count, is_exempt, company_of}
use Rattle.small_company.specs.design.Private.{recent_in, earlier_in, counts_of, counted_of, exempt_by, judged_of}
use Rattle.small_company.proofs.Refusals.{not-zero}
use Rattle.std.specs.Prelude.{Ok, Err}

-- what was counted: both counts where every claim passed its checks, else the number of the first that failed
module _ (b e : ℕ) (cs : List Claim) where
  all-counted : (n : Counts) → Ok n ≡ counted_of b e cs → (claims_check cs ≡ 0) × (n ≡ counts_of b e cs)
  unfolding counted_of
  all-counted n s =
      by (eqb (claims_check cs) 0) (λ t. Ok n ≡ pick t (Ok (counts_of b e cs)) (Err (claims_check cs)) → (claims_check cs ≡ 0) × (n ≡ counts_of b e cs))
      (λ q f. (eqb-true (claims_check cs) 0 q, cc)) (λ q f. let z : ◌≡◌ {A = ℕ} 0 1 = cc in absurd (omega tests)) s

  one-failed : (r : Refusal) → Err (number_of r) ≡ counted_of b e cs → number_of r ≡ claims_check cs
  unfolding counted_of
  one-failed r s =
      by (eqb (claims_check cs) 0) (λ t. Err (number_of r) ≡ pick t (Ok (counts_of b e cs)) (Err (claims_check cs)) → number_of r ≡ claims_check cs)
      (λ q f. let z : ◌≡◌ {A = ℕ} 0 1 = cc in absurd (omega tests)) (λ q f. cc) s

module _ (d : Date) (bytes new old : List ℕ) where
  refused : (r : Refusal) → number_of r ≡ company_check d bytes → company_by_number (Err r) ≡ company_of d bytes new old
  unfolding company_of
  refused r e = rw e (simp (ne_eqb (company_check d bytes) 0 (not-zero r _ e)))

  pub no-date : is_date d ≡ false → company_by_number (Err refusal.Date) ≡ company_of d bytes new old
  unfolding company_check ◌then◌
  no-date h = refused refusal.Date (rw h)

  pub no-list : is_date d ≡ true → list_sound bytes ≡ false → company_by_number (Err refusal.Block) ≡ company_of d bytes new old
  unfolding company_check ◌then◌
  no-list h s = refused refusal.Block (rw (h, s))

  -- both counts by the days of the valuation date are the rule's
  told : company_check d bytes ≡ 0 → judged_of (counts_of (first_within d) (day_number d) (listed_claims bytes)) new old ≡ company_of d bytes new old
  unfolding company_of judged_of exempt_by counts_of is_exempt recent_count earlier_count is_recent is_earlier open_by recent_in earlier_in
  told z = rw z

  module _ (h : is_date d ≡ true) (s : list_sound bytes ≡ true) where
    claims-decide : company_check d bytes ≡ claims_check (listed_claims bytes)
    unfolding company_check ◌then◌
    claims-decide = rw (h, s)

    pub claim-refused : (r : Refusal) → Err (number_of r) ≡ counted_of (first_within d) (day_number d) (listed_claims bytes)
        → company_by_number (Err r) ≡ company_of d bytes new old
    claim-refused r e = refused r (one-failed (first_within d) (day_number d) (listed_claims bytes) r e ∙ sym claims-decide)

    pub judged : (n : Counts) → Ok n ≡ counted_of (first_within d) (day_number d) (listed_claims bytes) → judged_of n new old ≡ company_of d bytes new old
    judged n e =
        let k = all-counted (first_within d) (day_number d) (listed_claims bytes) n e in
        ap (λ (m : Counts). judged_of m new old) k.1 ∙ told (claims-decide ∙ k.0)
