-- Document 01, Claim file: blocks of 512 bytes, low byte first.
use Rattle.std.specs.Prelude.{ℕ, zero, suc, ◌+◌, ◌-◌, ◌*◌, ◌/◌, ◌%◌, Bool, true, ◌&&◌, List, ◌∷◌, ◌++◌, length, leb, eqb}
use Rattle.basics.specs.Limits.{block_bytes}
use Rattle.calendar.specs.declared.Date.{Date}
use Rattle.basics.specs.Pick.{pick}
use Rattle.claim_months.specs.declared.Claim.{Claim}
use Rattle.claim_file.specs.Bytes.{byte_at, two_at, zero_from, two, date_bytes, zeros}
use Rattle.claim_file.specs.Record.{claim_from, record_padded, all_claim_bytes}

-- block number 0–1, claim count 2, claims from 16 in 32 bytes each
unfoldable pub block_number : List ℕ → ℕ
block_number bytes = two_at bytes 0

unfoldable pub claim_count : List ℕ → ℕ
claim_count bytes = byte_at bytes 2

unfoldable pub block_claim : List ℕ → ℕ → Claim
block_claim bytes k = claim_from bytes (16 + 32 * k)

-- check 510–511: the sum over i = 0..509 of (i + 1) × byte i, modulo 65,521
unfoldable pub check_sum : List ℕ → ℕ → ℕ
check_sum bytes zero = 0
check_sum bytes (suc n) = check_sum bytes n + (n + 1) * byte_at bytes n

unfoldable pub check_number : List ℕ → ℕ
check_number bytes = check_sum bytes 510 % 65521

-- the bytes past the fields of the first n claims are zero
unfoldable pub claims_padded : List ℕ → ℕ → Bool
claims_padded bytes zero = true
claims_padded bytes (suc n) = claims_padded bytes n && record_padded bytes (16 + 32 * n)

-- 11, block: length, number, count, zero bytes or check wrong. Block 0 has count 0 and the window's dates at 16 and 20
unfoldable pub framed : ℕ → List ℕ → Bool
framed due bytes =
    eqb (length bytes) block_bytes && eqb (block_number bytes) due && eqb (check_number bytes) (two_at bytes 510) && zero_from bytes 3 13

unfoldable pub window_block : List ℕ → Bool
window_block bytes = framed 0 bytes && eqb (claim_count bytes) 0 && zero_from bytes 24 486

unfoldable pub claim_block : ℕ → List ℕ → Bool
claim_block due bytes =
    framed due bytes && leb (claim_count bytes) 15 && claims_padded bytes (claim_count bytes)
    && zero_from bytes (16 + 32 * claim_count bytes) (494 - 32 * claim_count bytes)

-- a sound block at the number due
unfoldable pub block_sound : ℕ → List ℕ → Bool
block_sound due bytes = pick (eqb due 0) (window_block bytes) (claim_block due bytes)

-- a block's first 510 bytes with its check behind them
unfoldable pub sealed : List ℕ → List ℕ
sealed bytes = bytes ++ two (check_number bytes)

-- block 0 of a window, and the block of a number and up to 15 claims
unfoldable pub window_bytes : Date → Date → List ℕ
window_bytes b e = sealed (0 ∷ 0 ∷ 0 ∷ (zeros 13 ++ (date_bytes b ++ (date_bytes e ++ zeros 486))))

unfoldable pub bytes_of_block : ℕ → List Claim → List ℕ
bytes_of_block number claims =
    sealed (number % 256 ∷ number / 256 % 256 ∷ length claims ∷ (zeros 13 ++ (all_claim_bytes claims ++ zeros (494 - 32 * length claims))))
