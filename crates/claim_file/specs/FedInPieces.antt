-- A file fed in pieces of whole blocks is the file fed at once.
use Rattle.std.specs.Prelude.{ℕ, ◌%◌, ◌≡◌, List, ◌++◌, length}
use Rattle.basics.specs.Limits.{block_bytes}
use Rattle.claim_file.specs.Runs.{FileRun}
use Rattle.claim_file.specs.Run.{Adding, fed}

-- a file may come in pieces: after a whole number of blocks a run goes on as if all bytes had come at once; `proofs/FedInPieces.antt` proves it
abbrev pub FedInPieces : Type 0
FedInPieces = (r : FileRun) (add : Adding) (a b : List ℕ) → length a % block_bytes ≡ 0 → fed (fed r add a) add b ≡ fed r add (a ++ b)
