-- Document 02, requests Nos. 4 and 7: old files read as they did. Before No. 4 a record's fields ended with a cell of one byte, at 22, and the nine
-- bytes past them were zero; before No. 7 they ended with the cell of two bytes, and the eight past them were zero. Here are those layouts and
-- their run, and the statement that nothing changes for such files.
use Rattle.std.specs.Prelude.{ℕ, zero, suc, ◌+◌, ◌-◌, ◌*◌, ◌/◌, ◌%◌, ◌<◌, ◌≡◌, Bool, true, false, ◌&&◌, not, List, length, get_or, set, take, drop, leb, ltb, eqb}
use Rattle.basics.specs.Limits.{block_bytes}
use Rattle.basics.specs.Pick.{pick}
use Rattle.basics.specs.Checks.{check, ◌then◌, refuse_rate_table, refuse_cell, refuse_rate, refuse_block, refuse_date, refuse_status, refuse_sequence, refuse_short_elimination}
use Rattle.claim_months.specs.declared.Claim.{Claim}
use Rattle.claim_months.specs.Claim.{dates_sound, status_sound, sequence_sound, ep_sound, weight, claim_check}
use Rattle.rates.specs.Rates.{rates_sound, rate_check}
use Rattle.study.specs.declared.Study.{Study}
use Rattle.study.specs.Answers.{Answer}
use Rattle.study.specs.Study.{opened}
use Rattle.claim_file.specs.Runs.{FileRun}
use Rattle.claim_file.specs.Bytes.{byte_at, two_at, date_from, zero_from}
use Rattle.claim_file.specs.Record.{claim_with}
use Rattle.claim_file.specs.Block.{claim_count, block_claim, framed, window_block, block_sound}
use Rattle.claim_file.specs.RoundTrip.{AreBytes}
use Rattle.claim_file.specs.Run.{started, going_on, stops, Adding, part_fed, ended, file_run_with}

-- a layout of that time: how the claim whose record starts at a byte is read, and whether the bytes past its fields are zero. No claim had a benefit
pub record Layout : Type 0 where
  pub claim_at : List ℕ → ℕ → Claim
  pub padded_at : List ℕ → ℕ → Bool

unfoldable pub with_cell : (List ℕ → ℕ → ℕ) → List ℕ → ℕ → Claim
with_cell cell_at bytes i = claim_with bytes i (cell_at bytes (i + 22)) 0

unfoldable pub layout_before_four : Layout
layout_before_four = record { claim_at = with_cell byte_at; padded_at = λ bytes i. zero_from bytes (i + 23) 9 }

unfoldable pub layout_before_seven : Layout
layout_before_seven = record { claim_at = with_cell two_at; padded_at = λ bytes i. zero_from bytes (i + 24) 8 }

-- a claim of a block in a layout, and the bytes past the fields of the first n claims
unfoldable pub older_claim : Layout → List ℕ → ℕ → Claim
older_claim l bytes k = l.claim_at bytes (16 + 32 * k)

unfoldable pub older_padded : Layout → List ℕ → ℕ → Bool
older_padded l bytes zero = true
older_padded l bytes (suc n) = older_padded l bytes n && l.padded_at bytes (16 + 32 * n)

-- a block that was sound then
unfoldable pub older_claim_block : Layout → ℕ → List ℕ → Bool
older_claim_block l due bytes =
    framed due bytes && leb (claim_count bytes) 15 && older_padded l bytes (claim_count bytes)
    && zero_from bytes (16 + 32 * claim_count bytes) (494 - 32 * claim_count bytes)

unfoldable pub older_sound : Layout → ℕ → List ℕ → Bool
older_sound l due bytes = pick (eqb due 0) (window_block bytes) (older_claim_block l due bytes)

-- the run then: the same steps over that layout
unfoldable pub older_claims_from : Layout → FileRun → Study → Adding → List ℕ → ℕ → ℕ → FileRun
older_claims_from l r s add bytes k zero = going_on r s
older_claims_from l r s add bytes k (suc n) =
    let a = add s (older_claim l bytes k) in
    pick (eqb a.refused 0) (older_claims_from l r a.study add bytes (suc k) n) (stops r a.study a.refused (suc k))

unfoldable pub older_begun : Layout → Study → ℕ → List ℕ → Answer
older_begun l s due bytes =
    pick (older_sound l due bytes)
    (pick (eqb due 0) (opened (date_from bytes 16) (date_from bytes 20)) (record { refused = 0; study = s }))
    (record { refused = refuse_block; study = s })

unfoldable pub older_block_fed : Layout → FileRun → Adding → List ℕ → FileRun
older_block_fed l r add bytes =
    let a = older_begun l r.study r.due bytes in
    pick (eqb a.refused 0) (older_claims_from l r a.study add bytes 0 (claim_count bytes)) (stops r a.study a.refused 0)

unfoldable pub older_blocks_fed : Layout → FileRun → Adding → List ℕ → ℕ → FileRun
older_blocks_fed l r add bytes zero = r
older_blocks_fed l r add bytes (suc n) =
    pick (eqb r.refused 0) (older_blocks_fed l (older_block_fed l r add (take block_bytes bytes)) add (drop block_bytes bytes) n) r

unfoldable pub older_run : Layout → Adding → List ℕ → FileRun
older_run l add bytes = ended (part_fed (older_blocks_fed l started add bytes (length bytes / block_bytes)) (length bytes % block_bytes))

-- the n blocks of a file, from the number due on, were sound then, up to the first that is damaged: sound neither then nor now. Nothing is asked of
-- the blocks behind it
unfoldable pub older_blocks : Layout → ℕ → List ℕ → ℕ → Bool
older_blocks l due bytes zero = true
older_blocks l due bytes (suc n) =
    pick (older_sound l due (take block_bytes bytes)) (older_blocks l (suc due) (drop block_bytes bytes) n) (not (block_sound due (take block_bytes bytes)))

-- the checks 6 to 8 then: a table had up to 64 cells
unfoldable pub older_rate_check : List ℕ → ℕ → ℕ
older_rate_check rates cell =
    check (eqb (length rates % 958) 0 && leb 1 (length rates / 958) && leb (length rates / 958) 64) refuse_rate_table
    then check (ltb cell (length rates / 958)) refuse_cell
    then check (rates_sound rates cell) refuse_rate

-- and a claim's, without 16
unfoldable pub older_claim_check : Claim → ℕ
older_claim_check c =
    check (dates_sound c) refuse_date
    then check (status_sound c) refuse_status
    then check (sequence_sound c) refuse_sequence
    then check (ep_sound c) refuse_short_elimination

-- Of a layout: a block that was sound is sound and reads to the same claims, and with one byte changed it is sound neither then nor now. A file of
-- such blocks runs as it did, whatever the way to add, with a damaged block anywhere or a part block at its end: refused under the same number at the
-- same block and place, with the same study so far
pub record RunsAsBefore (l : Layout) : Type 0 where
  pub sound : (due : ℕ) (bytes : List ℕ) → older_sound l due bytes ≡ true → block_sound due bytes ≡ true
  pub claims : (due : ℕ) (bytes : List ℕ) → 0 < due → older_sound l due bytes ≡ true → (k : ℕ) → k < claim_count bytes
      → block_claim bytes k ≡ older_claim l bytes k
  pub damaged : (due : ℕ) (bytes : List ℕ) (i v : ℕ) → AreBytes bytes → older_sound l due bytes ≡ true → i < block_bytes → v < 256 → (v ≡ get_or bytes i 0 → ⊥)
      → (older_sound l due (set bytes i v) ≡ false) × (block_sound due (set bytes i v) ≡ false)
  pub runs : (add : Adding) (bytes : List ℕ) → older_blocks l 0 bytes (length bytes / block_bytes) ≡ true → older_run l add bytes ≡ file_run_with add bytes

-- So it is for both layouts; a table of up to 64 cells has the same checks, and a claim without a benefit has, and counts as it did: its weight is 1.
-- `proofs/OlderFiles.antt` proves it
pub record OlderFiles : Type 0 where
  pub before_four : RunsAsBefore layout_before_four
  pub before_seven : RunsAsBefore layout_before_seven
  pub tables : (rates : List ℕ) (cell : ℕ) → leb (length rates / 958) 64 ≡ true → older_rate_check rates cell ≡ rate_check rates cell
  pub checks : (c : Claim) → c.benefit ≡ 0 → older_claim_check c ≡ claim_check c
  pub weights : (c : Claim) → c.benefit ≡ 0 → weight c ≡ 1
