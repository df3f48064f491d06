-- The calls on records and blocks: ltd_listing, ltd_read_block, ltd_write_block and ltd_read_window. A claim is the 32 bytes of its record.
use Rattle.std.specs.Prelude.{ℕ, zero, suc, ◌*◌, ◌/◌, ◌%◌, Bool, true, false, ◌&&◌, List, [], ◌∷◌, length, set, take, replicate, leb, ltb, eqb, ℤ, Err, None, Ok, Option, Result, Some}
use Rattle.std.proofs.lemmas.List.Edits.{sets}
use Rattle.basics.specs.Limits.{no_form}
use Rattle.basics.specs.Pick.{pick}
use Rattle.basics.specs.Checks.{check, ◌then◌, refuse_block}
use Rattle.calendar.specs.declared.Date.{Date}
use Rattle.claim_months.specs.declared.Claim.{Claim}
use Rattle.claim_months.specs.Listing.{listing_of, list_after}
use Rattle.claim_file.specs.declared.Block.{Block}
use Rattle.claim_file.specs.BlockAnswers.{BlockRead}
use Rattle.claim_file.specs.Record.{all_claim_bytes}
use Rattle.claim_file.specs.BlockAnswers.{no_claim, record_in, read_of, write_check, bytes_after}
use Rattle.c_abi.specs.Abi.{refused_number, number_answered, date_number}
use Rattle.claim_file.specs.declared.WindowDates.{WindowDates}

-- ltd_listing: the month records of a record's claim between two dates; 255 where the list has no record
abbrev pub listing_answer : Date → Date → Option Claim → ℕ → ℕ
listing_answer b e (Some c) room = number_answered (listing_of b e c room)
listing_answer b e None room = refused_number no_form

abbrev pub listing_after : Date → Date → Option Claim → List ℤ → List ℤ
listing_after b e (Some c) old = list_after b e c old
listing_after b e None old = old

-- ltd_read_block: how many claims, their records from the first byte on, the rest as it was; the list asked for holds fifteen records
abbrev pub read_number : BlockRead → ℕ
read_number r = pick (eqb r.refused 0) r.block.count (refused_number r.refused)

abbrev pub read_stored : List ℕ → BlockRead → List ℕ
read_stored old r = pick (eqb r.refused 0) (sets old 0 (all_claim_bytes (take r.block.count r.block.claims))) old

abbrev pub read_answer : ℕ → List ℕ → List ℕ → ℕ
read_answer due block old = pick (ltb (length old) 480) (refused_number no_form) (read_number (read_of due block))

abbrev pub read_after : ℕ → List ℕ → List ℕ → List ℕ
read_after due block old = pick (ltb (length old) 480) old (read_stored old (read_of due block))

-- ltd_write_block: the claims lent, one after the other as records; a list of theirs ends with a record, of 0 to 15, and each stands as one
abbrev pub is_record : Option Claim → Bool
is_record (Some c) = true
is_record None = false

unfoldable pub all_records : List ℕ → ℕ → Bool
all_records bytes zero = true
all_records bytes (suc n) = all_records bytes n && is_record (record_in bytes (32 * n))

abbrev pub record_count : List ℕ → ℕ
record_count bytes = length bytes / 32

abbrev pub records_form : List ℕ → Bool
records_form bytes = eqb (length bytes % 32) 0 && leb (record_count bytes) 15 && all_records bytes (record_count bytes)

-- fifteen places with the claims of the first n records in them, zeros past them
abbrev pub claim_or : Option Claim → Claim
claim_or (Some c) = c
claim_or None = no_claim

unfoldable pub records_read : List ℕ → ℕ → List Claim
records_read bytes zero = replicate 15 no_claim
records_read bytes (suc n) = set (records_read bytes n) n (claim_or (record_in bytes (32 * n)))

abbrev pub block_of : List ℕ → Block
block_of bytes = record { count = record_count bytes; claims = records_read bytes (record_count bytes) }

abbrev pub write_answer : ℕ → List ℕ → List ℕ → ℕ
write_answer number claims old = check (records_form claims) refuse_block then write_check number (record_count claims) (length old)

abbrev pub write_after : ℕ → List ℕ → List ℕ → List ℕ
write_after number claims old = pick (records_form claims) (bytes_after number (block_of claims) old) old

-- ltd_read_window: the two dates as numbers, or the list as it was
abbrev pub window_number : Result WindowDates ℕ → ℕ
window_number (Ok w) = 0
window_number (Err n) = n

abbrev pub dates_stored : List ℕ → Result WindowDates ℕ → List ℕ
dates_stored old (Ok w) = sets old 0 (date_number w.first ∷ date_number w.last ∷ [])
dates_stored old (Err n) = old
