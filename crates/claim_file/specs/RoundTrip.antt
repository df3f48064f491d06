-- Round trips on the calls: what `write` and `write_window` leave, `read` and `read_window` give back; what these give, those write to the very
-- bytes; and a block with one byte changed is refused. `crates/claim_file/proofs/RoundTrip.antt` proves it.
use Rattle.std.specs.Prelude.{ℕ, ◌<◌, ◌≡◌, List, length, get_or, set, take, Err, Ok}
use Rattle.basics.specs.Limits.{block_bytes}
use Rattle.basics.specs.Checks.{refuse_block}
use Rattle.basics.specs.Tables.{table}
use Rattle.calendar.specs.declared.Date.{Date}
use Rattle.claim_months.specs.declared.Claim.{Claim}
use Rattle.claim_file.specs.declared.Block.{Block}
use Rattle.claim_file.specs.declared.WindowDates.{WindowDates}
use Rattle.claim_file.specs.BlockAnswers.{no_claim, block_check, read_of, window_of, write_check, bytes_after, window_after}

-- fields that the code's widths hold
pub record DateFits (d : Date) : Type 0 where
  pub year_fits : d.year < 65536
  pub month_fits : d.month < 256
  pub day_fits : d.day < 256

pub record ClaimFits (c : Claim) : Type 0 where
  pub number_fits : c.number < 4294967296
  pub disability_fits : DateFits c.disability
  pub bcd_fits : DateFits c.bcd
  pub termination_fits : DateFits c.termination
  pub maximum_fits : DateFits c.maximum
  pub status_fits : c.status < 256
  pub code_fits : c.code < 256
  pub cell_fits : c.cell < 65536

pub record BlockFits (b : Block) : Type 0 where
  pub places : length b.claims ≡ 15
  pub claims_fit : (k : ℕ) → k < 15 → ClaimFits (get_or b.claims k no_claim)

abbrev pub AreBytes : List ℕ → Type 0
AreBytes bytes = (i : ℕ) → get_or bytes i 0 < 256

-- some claims in fifteen places, zeros past them
unfoldable pub in_fifteen : List Claim → List Claim
in_fifteen cs = table 15 (λ k. get_or cs k no_claim)

pub record RoundTrips : Type 0 where
  -- writing, then reading: the count and the claims, and zeros past them
  pub write_read : (number : ℕ) (block : Block) (old : List ℕ) → BlockFits block → write_check number block.count (length old) ≡ 0
      → read_of number (bytes_after number block old)
      ≡ record { refused = 0; block = record { count = block.count; claims = in_fifteen (take block.count block.claims) } }
  -- reading, then writing: the very bytes
  pub read_write : (number : ℕ) (bytes old : List ℕ) → AreBytes bytes → (read_of number bytes).refused ≡ 0 → length old ≡ block_bytes
      → (write_check number (read_of number bytes).block.count (length old) ≡ 0) × (bytes_after number (read_of number bytes).block old ≡ bytes)
  -- the same of block 0
  pub write_read_window : (b e : Date) (old : List ℕ) → DateFits b → DateFits e → length old ≡ block_bytes
      → window_of (window_after b e old) ≡ Ok (record { first = b; last = e })
  pub read_write_window : (w : WindowDates) (bytes old : List ℕ) → AreBytes bytes → window_of bytes ≡ Ok w → length old ≡ block_bytes
      → window_after w.first w.last old ≡ bytes
  -- one changed byte is refused, by the check of either kind of block and by the call that reads it
  pub changed : (due : ℕ) (bytes : List ℕ) (i v : ℕ) → AreBytes bytes → block_check due bytes ≡ 0 → i < block_bytes → v < 256 → (v ≡ get_or bytes i 0 → ⊥)
      → block_check due (set bytes i v) ≡ refuse_block
  pub changed_read : (due : ℕ) (bytes : List ℕ) (i v : ℕ) → AreBytes bytes → (read_of due bytes).refused ≡ 0 → i < block_bytes → v < 256 → (v ≡ get_or bytes i 0 → ⊥)
      → (read_of due (set bytes i v)).refused ≡ refuse_block
  pub changed_window : (w : WindowDates) (bytes : List ℕ) (i v : ℕ) → AreBytes bytes → window_of bytes ≡ Ok w → i < block_bytes → v < 256 → (v ≡ get_or bytes i 0 → ⊥)
      → window_of (set bytes i v) ≡ Err refuse_block
