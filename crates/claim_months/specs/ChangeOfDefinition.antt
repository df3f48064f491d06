-- Document 02, request No. 6: a closing at the change of definition, code 6, is counted as a recovery.
use Rattle.std.specs.Prelude.{ℕ, ◌≡◌, true, List, ℤ}
use Rattle.calendar.specs.declared.Date.{Date}
use Rattle.claim_months.specs.declared.Claim.{Claim}
use Rattle.claim_months.specs.Claim.{is_closed, category, claim_check}
use Rattle.claim_months.specs.Exposure.{month_records}
use Rattle.claim_months.specs.Span.{span_in}
use Rattle.claim_months.specs.Listing.{listing_of, list_after}

-- the same claim under another code
unfoldable pub with_code : ℕ → Claim → Claim
with_code x c =
    record {
      number = c.number;
      disability = c.disability;
      bcd = c.bcd;
      termination = c.termination;
      maximum = c.maximum;
      status = c.status;
      code = x;
      cell = c.cell;
      benefit = c.benefit;
    }

-- A closed claim with code 6 has the checks, category, month records, span and listing of the same claim with code 1, recovery, in every window
-- and for every lent list. `proofs/ChangeOfDefinition.antt` proves it
pub record AsRecovery (c : Claim) : Type 0 where
  pub checks : claim_check c ≡ claim_check (with_code 1 c)
  pub categories : category c ≡ category (with_code 1 c)
  pub records : (b e : ℕ) → month_records c b e ≡ month_records (with_code 1 c) b e
  pub spans : (b e : ℕ) → span_in c b e ≡ span_in (with_code 1 c) b e
  pub answers : (b e : Date) (n : ℕ) → listing_of b e c n ≡ listing_of b e (with_code 1 c) n
  pub lists : (b e : Date) (old : List ℤ) → list_after b e c old ≡ list_after b e (with_code 1 c) old

abbrev pub ChangeOfDefinition : Type 0
ChangeOfDefinition = (c : Claim) → is_closed c ≡ true → c.code ≡ 6 → AsRecovery c
