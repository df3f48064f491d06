-- ltd_load_claim: a step of a load (document 02, No. 13). The claim is given as the 32 bytes of its record.
use Rattle.std.specs.Prelude.{ℕ, Bool, ◌&&◌, List, [], ◌∷◌, length, leb, Err, Ok, Result}
use Rattle.std.proofs.lemmas.List.Edits.{sets}
use Rattle.basics.specs.Limits.{no_form}
use Rattle.basics.specs.Pick.{pick}
use Rattle.claim_file.specs.Record.{claim_bytes}
use Rattle.load.specs.declared.LoadedClaim.{LoadedClaim}

-- room for one x and for a record
abbrev pub step_lent : List ℕ → List ℕ → Bool
step_lent x-out claim = leb 1 (length x-out) && leb 32 (length claim)

abbrev pub step_number : Result LoadedClaim ℕ → ℕ
step_number (Ok step) = 0
step_number (Err n) = n

abbrev pub step_answered : List ℕ → List ℕ → Result LoadedClaim ℕ → ℕ
step_answered x-out claim m = pick (step_lent x-out claim) (step_number m) no_form

-- the x reached in the first place, and the record from the first byte on, or the lists as they were
abbrev pub reached_stored : List ℕ → Result LoadedClaim ℕ → List ℕ
reached_stored old (Ok step) = sets old 0 (step.x ∷ [])
reached_stored old (Err n) = old

abbrev pub record_stored : List ℕ → Result LoadedClaim ℕ → List ℕ
record_stored old (Ok step) = sets old 0 (claim_bytes step.claim)
record_stored old (Err n) = old

abbrev pub reached_after : List ℕ → List ℕ → Result LoadedClaim ℕ → List ℕ
reached_after x-out claim m = pick (step_lent x-out claim) (reached_stored x-out m) x-out

abbrev pub record_after : List ℕ → List ℕ → Result LoadedClaim ℕ → List ℕ
record_after x-out claim m = pick (step_lent x-out claim) (record_stored claim m) claim
