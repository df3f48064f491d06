-- Document 01, Claim file: a claim's record of 32 bytes, at any byte of a list.
use Rattle.std.specs.Prelude.{ℕ, ◌+◌, ◌/◌, ◌%◌, Bool, List, [], ◌∷◌, ◌++◌}
use Rattle.claim_months.specs.declared.Claim.{Claim}
use Rattle.claim_file.specs.Bytes.{byte_at, two_at, four_at, date_from, zero_from, date_bytes}

-- Claim: number 0–3; disability, BCD, termination, maximum dates at 4, 8, 12, 16; status 20; code 21. Cell and benefit have changed their bytes
abbrev pub claim_with : List ℕ → ℕ → ℕ → ℕ → Claim
claim_with bytes i cell benefit =
    record {
      number = four_at bytes i;
      disability = date_from bytes (i + 4);
      bcd = date_from bytes (i + 8);
      termination = date_from bytes (i + 12);
      maximum = date_from bytes (i + 16);
      status = byte_at bytes (i + 20);
      code = byte_at bytes (i + 21);
      cell = cell;
      benefit = benefit;
    }

-- cell 22–23 (document 02, No. 4); benefit 24 (document 02, No. 7)
unfoldable pub claim_from : List ℕ → ℕ → Claim
claim_from bytes i = claim_with bytes i (two_at bytes (i + 22)) (byte_at bytes (i + 24))

-- the seven bytes past its fields are zero
unfoldable pub record_padded : List ℕ → ℕ → Bool
record_padded bytes i = zero_from bytes (i + 25) 7

-- the 32 bytes of a claim, and those of several claims
unfoldable pub claim_bytes : Claim → List ℕ
claim_bytes c =
    c.number % 256 ∷ c.number / 256 % 256 ∷ c.number / 65536 % 256 ∷ c.number / 16777216 % 256
    ∷ (date_bytes c.disability ++ (date_bytes c.bcd ++ (date_bytes c.termination ++ (date_bytes c.maximum
    ++ (c.status ∷ c.code ∷ c.cell % 256 ∷ c.cell / 256 % 256 ∷ c.benefit ∷ 0 ∷ 0 ∷ 0 ∷ 0 ∷ 0 ∷ 0 ∷ 0 ∷ [])))))

unfoldable pub all_claim_bytes : List Claim → List ℕ
all_claim_bytes [] = []
all_claim_bytes (c ∷ cs) = claim_bytes c ++ all_claim_bytes cs
