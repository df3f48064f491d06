-- What the calls on records and blocks answer, on every input.
use Rattle.std.specs.Prelude.{ℕ, zero, suc, ◌+◌, Bool, ◌&&◌, List, [], ◌∷◌, length, take, leb, eqb, Err, None, Ok, Option, Result, Some}
use Rattle.std.proofs.lemmas.List.Edits.{sets}
use Rattle.basics.specs.Limits.{block_bytes}
use Rattle.calendar.specs.declared.Date.{Date}
use Rattle.basics.specs.Pick.{pick}
use Rattle.basics.specs.Checks.{check, refuse_block}
use Rattle.claim_months.specs.declared.Claim.{Claim}
use Rattle.claim_file.specs.declared.Block.{Block}
use Rattle.basics.specs.declared.refusal.Refusal.{Refusal}
use Rattle.basics.specs.Refused.{number_of}
use Rattle.claim_file.specs.Bytes.{date_from}
use Rattle.claim_file.specs.Record.{claim_from, claim_bytes, record_padded}
use Rattle.claim_file.specs.Block.{block_claim, claim_count, window_block, claim_block, block_sound, window_bytes, bytes_of_block}
use Rattle.claim_file.specs.declared.WindowDates.{WindowDates}

-- a record at a byte: the list has its 32 bytes
abbrev pub has_record : ℕ → ℕ → Bool
has_record i room = leb (i + 32) room

-- reading a record: the claim, unless the list ends before it or a byte past its fields is not zero
unfoldable pub record_in : List ℕ → ℕ → Option Claim
record_in bytes i = pick (has_record i (length bytes) && record_padded bytes i) (Some (claim_from bytes i)) None

-- the lent bytes after writing one; without the room they are left
unfoldable pub record_after : Claim → ℕ → List ℕ → List ℕ
record_after c i old = pick (has_record i (length old)) (sets old i (claim_bytes c)) old

-- the number refused by the check of a block at the number due: 11, or 0
unfoldable pub block_check : ℕ → List ℕ → ℕ
block_check due bytes = check (block_sound due bytes) refuse_block

-- a claim of zeros stands past a block's count
abbrev pub no_date : Date
no_date = record { year = 0; month = 0; day = 0 }

abbrev pub no_claim : Claim
no_claim = record { number = 0; disability = no_date; bcd = no_date; termination = no_date; maximum = no_date; status = 0; code = 0; cell = 0; benefit = 0 }

-- the first n of the claims in 15 places, from place k on
unfoldable pub claims_in : List ℕ → ℕ → ℕ → List Claim
claims_in bytes k zero = []
claims_in bytes k (suc n) = pick (leb (suc k) (claim_count bytes)) (block_claim bytes k) no_claim ∷ claims_in bytes (suc k) n

-- a claim block read, with the number refused or 0
pub record BlockRead : Type 0 where
  pub refused : ℕ
  pub block : Block

-- reading a claim block at the number due, which is not 0: its count and claims; a refusal gives no claims
unfoldable pub read_of : ℕ → List ℕ → BlockRead
read_of due bytes =
    pick (leb 1 due && claim_block due bytes)
    (record { refused = 0; block = record { count = claim_count bytes; claims = claims_in bytes 0 15 } })
    (record { refused = refuse_block; block = record { count = 0; claims = claims_in [] 0 15 } })

-- the read that the code gives
abbrev pub read_by_number : Result Block Refusal → BlockRead
read_by_number (Ok b) = record { refused = 0; block = b }
read_by_number (Err r) = record { refused = number_of r; block = record { count = 0; claims = claims_in [] 0 15 } }

-- reading block 0: the window's dates
unfoldable pub window_of : List ℕ → Result WindowDates ℕ
window_of bytes = pick (window_block bytes) (Ok (record { first = date_from bytes 16; last = date_from bytes 20 })) (Err refuse_block)

-- writing: more than 15 claims, claims as block 0, a number that two bytes don't hold, or a list that has not 512 bytes is refused 11
unfoldable pub write_sound : ℕ → ℕ → ℕ → Bool
write_sound number count room = leb 1 number && leb number 65535 && leb count 15 && eqb room block_bytes

unfoldable pub write_check : ℕ → ℕ → ℕ → ℕ
write_check number count room = check (write_sound number count room) refuse_block

-- the lent bytes afterwards; a refusal leaves them
unfoldable pub bytes_after : ℕ → Block → List ℕ → List ℕ
bytes_after number block old =
    pick (write_sound number block.count (length old)) (bytes_of_block number (take block.count block.claims)) old

unfoldable pub window_after : Date → Date → List ℕ → List ℕ
window_after b e old = pick (eqb (length old) block_bytes) (window_bytes b e) old
