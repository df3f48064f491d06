-- Document 01, Claim file: a file run takes blocks 0, 1, 2, .. in order and stops at the first refusal.
use Rattle.std.specs.Prelude.{ℕ, zero, suc, ◌+◌, ◌/◌, ◌%◌, ◌&&◌, List, length, take, drop, ltb, eqb}
use Rattle.basics.specs.Limits.{block_bytes}
use Rattle.basics.specs.Pick.{pick}
use Rattle.basics.specs.Checks.{refuse_block}
use Rattle.claim_months.specs.declared.Claim.{Claim}
use Rattle.study.specs.declared.Study.{Study}
use Rattle.study.specs.Answers.{Answer}
use Rattle.study.specs.Study.{fresh, first_day_alone, opened, added}
use Rattle.claim_file.specs.Runs.{FileRun}
use Rattle.claim_file.specs.Bytes.{date_from}
use Rattle.claim_file.specs.Block.{block_claim, claim_count, block_sound}

-- a run before its first block: no study opened yet, so zero sums, no claims taken and the window 1950-01-01 alone
unfoldable pub started : FileRun
started = record { study = fresh first_day_alone; due = 0; refused = 0; block = 0; place = 0 }

-- a run that goes on with a study at the next block; number, block and place are 0
unfoldable pub going_on : FileRun → Study → FileRun
going_on r s = record { study = s; due = r.due + 1; refused = 0; block = 0; place = 0 }

-- a run refused at the block due: the study so far, the number, and the claim place from 1 (0 for a block fault, a bad length or a bad window)
unfoldable pub stops : FileRun → Study → ℕ → ℕ → FileRun
stops r s number place = record { study = s; due = r.due; refused = number; block = r.due; place = place }

-- a way to add a claim to a study, and document 01's with some rates
abbrev pub Adding : Type 0
Adding = Study → Claim → Answer

abbrev pub adding : List ℕ → Adding
adding rates s c = added s c rates

-- adding the n claims of a block from place k (from 0) on
unfoldable pub claims_from : FileRun → Study → Adding → List ℕ → ℕ → ℕ → FileRun
claims_from r s add bytes k zero = going_on r s
claims_from r s add bytes k (suc n) =
    let a = add s (block_claim bytes k) in
    pick (eqb a.refused 0) (claims_from r a.study add bytes (suc k) n) (stops r a.study a.refused (suc k))

-- the study to which a block's claims are added: block 0 opens it; refused if the block is not sound or its window is not
unfoldable pub begun : Study → ℕ → List ℕ → Answer
begun s due bytes =
    pick (block_sound due bytes)
    (pick (eqb due 0) (opened (date_from bytes 16) (date_from bytes 20)) (record { refused = 0; study = s }))
    (record { refused = refuse_block; study = s })

-- one block: what begins it, and then its claims
unfoldable pub block_fed : FileRun → Adding → List ℕ → FileRun
block_fed r add bytes =
    let a = begun r.study r.due bytes in
    pick (eqb a.refused 0) (claims_from r a.study add bytes 0 (claim_count bytes)) (stops r a.study a.refused 0)

-- the first n blocks of some bytes, up to the first refusal
unfoldable pub blocks_fed : FileRun → Adding → List ℕ → ℕ → FileRun
blocks_fed r add bytes zero = r
blocks_fed r add bytes (suc n) =
    pick (eqb r.refused 0) (blocks_fed (block_fed r add (take block_bytes bytes)) add (drop block_bytes bytes) n) r

-- a part block at the end is refused 11 under the number due there
unfoldable pub part_fed : FileRun → ℕ → FileRun
part_fed r left = pick (eqb r.refused 0 && ltb 0 left) (stops r r.study refuse_block 0) r

-- feeding bytes to a run: its whole blocks, then what is left
unfoldable pub fed : FileRun → Adding → List ℕ → FileRun
fed r add bytes = part_fed (blocks_fed r add bytes (length bytes / block_bytes)) (length bytes % block_bytes)

-- ending a run: a file without block 0 is refused 11
unfoldable pub ended : FileRun → FileRun
ended r = pick (eqb r.refused 0 && eqb r.due 0) (stops r r.study refuse_block 0) r

-- the run of a whole file, with a way to add, and with rates
unfoldable pub file_run_with : Adding → List ℕ → FileRun
file_run_with add bytes = ended (fed started add bytes)

abbrev pub file_run : List ℕ → List ℕ → FileRun
file_run rates bytes = file_run_with (adding rates) bytes
