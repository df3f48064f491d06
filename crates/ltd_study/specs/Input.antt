-- Document 01, Figures to hold it to: rates from `rates.bin`, the claim file on standard input; and what the program prints of them.
use Rattle.std.specs.Prelude.{ℕ, ◌+◌, ◌*◌, ◌/◌, ◌%◌, ◌≡◌, Bool, true, false, not, ◌&&◌, List, [], ◌∷◌, ◌++◌, length, take, leb, eqb, Option, Result, Ok, Err}
use Rattle.std.specs.Io.KnownBytes.{Appends}
use Rattle.basics.specs.Limits.{block_bytes}
use Rattle.basics.specs.Pick.{pick}
use Rattle.basics.specs.Tables.{table}
use Rattle.rates.specs.declared.Kind.TheVariants.{Prepared}
use Rattle.claim_file.specs.Runs.{FileRun}
use Rattle.claim_file.specs.Bytes.{four_at}
use Rattle.claim_file.specs.Run.{file_run_with, file_run}
use Rattle.claim_file.specs.design.PreparedRuns.{adding_with}
use Rattle.report.specs.Text.{run_text}
use Rattle.ltd_study.specs.declared.input.Filled.{Filled}
use Rattle.ltd_study.specs.Sources.{Stream, Gives}

-- the first n rates of some bytes: four bytes each, low byte first
unfoldable pub block_rates : List ℕ → ℕ → List ℕ
block_rates bytes n = table n (λ k. four_at bytes (4 * k))

-- what a read comes to: no byte is the end of the input, or a failure
abbrev pub read_answer : {E : Type 0} → Result ℕ E → Filled
read_answer (Ok n) = record { count = n; over = eqb n 0; failed = false }
read_answer (Err e) = record { count = 0; over = true; failed = true }

-- whether so many bytes of `rates.bin`, read to its end or not, are rates: at most 16 cells of 958, and no part number left over
unfoldable pub rates_fit : Bool → ℕ → Bool
rates_fit failed bytes = not failed && (eqb (bytes % 4) 0 && leb bytes 61312)

-- the rates of `rates.bin`: missing, longer, with a part number left over or not read to its end, it is an empty table
unfoldable pub file_rates : Bool → List ℕ → List ℕ
file_rates failed bytes = pick (rates_fit failed (length bytes)) (block_rates bytes (length bytes / 4)) []

-- how many of the bytes that came are fed: all of them, and where a read failed the whole blocks and a part block
unfoldable pub fed_count : Bool → ℕ → ℕ
fed_count failed count = pick failed (count / block_bytes * block_bytes + 1) count

-- the claim file that is run: the bytes that came, and where a read failed, the whole blocks of these and a part block, so that it doesn't look like the end
unfoldable pub claims_of : Stream → List ℕ
claims_of s = pick s.fails (take (length s.bytes / block_bytes * block_bytes) s.bytes ++ (0 ∷ [])) s.bytes

-- there is a `rates.bin` whose rates are the first of a table: the one that a source had left, where that is known
pub record RatesRead (left : Option Stream) (rates : ℕ) (table : List ℕ) : Type 0 where
  pub file : Stream
  pub given : Gives left file
  pub stored : take rates table ≡ file_rates file.fails file.bytes
  pub counted : rates ≡ length (file_rates file.fails file.bytes)

-- there is a claim file whose run under a prepared table it is: the one that a source had left, where that is known
pub record InputRun (left : Option Stream) (table : List ℕ) (run : FileRun) : Type 0 where
  pub claims : Stream
  pub given : Gives left claims
  pub same : run ≡ file_run_with (adding_with Prepared table) (claims_of claims)

-- there are a `rates.bin` and a claim file whose run by document 01 it is: those that the two sources had left, where that is known
pub record StudyRun (file input : Option Stream) (run : FileRun) : Type 0 where
  pub rates : Stream
  pub claims : Stream
  pub rates_given : Gives file rates
  pub claims_given : Gives input claims
  pub same : run ≡ file_run (file_rates rates.fails rates.bytes) (claims_of claims)

-- the same of the text that the program prints
pub record StudyText (file input : Option Stream) (text : List ℕ) : Type 0 where
  pub rates : Stream
  pub claims : Stream
  pub rates_given : Gives file rates
  pub claims_given : Gives input claims
  pub same : text ≡ run_text (file_run (file_rates rates.fails rates.bytes) (claims_of claims))

-- a writer was given that text and no more, where what it holds is known
pub record StudyPrinted (file input : Option Stream) (old new : Option (List ℕ)) : Type 0 where
  pub text : List ℕ
  pub studied : StudyText file input text
  pub written : Appends old new text
