-- Code 6, change of definition, is counted as a recovery: what is asked of a claim reads its code in the checks and in the category alone.
-- Assumes nothing.
use Prim.Native.Nat.{ℕ, zero, suc}
use mathlib.Core.Path.{◌≡◌, refl}
use mathlib.Core.Bool.{true}
use Rattle.claim_months.specs.declared.Claim.{Claim}
use Rattle.claim_months.specs.Claim.{is_closed, ep, first_duration, category, dates_sound, status_sound, sequence_sound, benefit_sound, ep_sound, claim_check}
use Rattle.claim_months.specs.ClaimMonths.{bcd_month, days_to_month_end, start_in, month_first, month_last}
use Rattle.claim_months.specs.Exposure.{closed_in, exposed_from, exposed_to, meets, closing_u, month_u, closing_category, month_record, records_from, month_records}
use Rattle.claim_months.specs.Span.{exposure_check, span_in}
use Rattle.claim_months.specs.Listing.{listed_records, listing_check, listing_of, list_after}
use Rattle.claim_months.specs.ChangeOfDefinition.{with_code, ChangeOfDefinition}

-- a claim and the same claim under another code, of the same category
module _ (c : Claim) (x : ℕ) (same : category c ≡ category (with_code x c)) where
  record_same : (b e k : ℕ) → month_record c b e k ≡ month_record (with_code x c) b e k
  unfolding month_record with_code is_closed ep first_duration bcd_month days_to_month_end start_in month_first month_last closed_in exposed_from exposed_to closing_u month_u closing_category
  record_same b e k = rw same

  meets-same : (b e k : ℕ) → meets c b e k ≡ meets (with_code x c) b e k
  unfolding meets with_code is_closed bcd_month days_to_month_end start_in month_first month_last exposed_from exposed_to
  meets-same b e k = refl

  records-from : (b e n k : ℕ) → records_from c b e k n ≡ records_from (with_code x c) b e k n
  unfolding records_from
  records-from b e zero k = refl
  records-from b e (suc n) k = rw (meets-same b e k, record_same b e k, records-from b e n (suc k))

  records-same : (b e : ℕ) → month_records c b e ≡ month_records (with_code x c) b e
  unfolding month_records
  records-same b e = records-from b e 1800 1

module _ (c : Claim) (z : is_closed c ≡ true) (six : c.code ≡ 6) where
  checks-same : claim_check c ≡ claim_check (with_code 1 c)
  unfolding claim_check with_code is_closed ep dates_sound status_sound sequence_sound benefit_sound ep_sound
  checks-same = rw (z, six)

  category-same : category c ≡ category (with_code 1 c)
  unfolding category with_code
  category-same = rw six

pub change-of-definition : ChangeOfDefinition
unfolding span_in exposure_check listed_records listing_check listing_of list_after
change-of-definition c z six =
    let checks = checks-same c z six in
    let records = records-same c 1 (category-same c z six) in
    record {
      checks = checks;
      categories = category-same c z six;
      records = records;
      spans = λ b e. rw (checks, records b e);
      answers = λ b e n. rw (checks, records _ _);
      lists = λ b e old. rw (checks, records _ _);
    }
