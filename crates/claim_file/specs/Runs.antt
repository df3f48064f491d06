-- Runs and reads by number: the definitions of this layer say them so, as document 01 does; and what the code holds, so read.
use Rattle.std.specs.Prelude.{ℕ, Option, Some, None}
use Rattle.basics.specs.Refused.{number_of}
use Rattle.study.specs.declared.Study.{Study}
use Rattle.claim_file.specs.declared.Stop.{Stop}
use Rattle.claim_file.specs.declared.FileRun as code
use Rattle.claim_file.specs.declared.CorrectedRun as corrected

-- a file run so far: its study, the number of the block due, and where it was refused, if it was: number, block and claim place
pub record FileRun : Type 0 where
  pub study : Study
  pub due : ℕ
  pub refused : ℕ
  pub block : ℕ
  pub place : ℕ

-- a run with corrections
pub record CorrectedRun : Type 0 where
  pub study : Study
  pub refused : ℕ
  pub block : ℕ
  pub place : ℕ

-- number, block and place of a stop, zeros of none
abbrev pub stop_number : Option Stop → ℕ
stop_number None = 0
stop_number (Some s) = number_of s.refusal

abbrev pub stop_block : Option Stop → ℕ
stop_block None = 0
stop_block (Some s) = s.block

abbrev pub stop_place : Option Stop → ℕ
stop_place None = 0
stop_place (Some s) = s.place

-- the runs that the code holds
abbrev pub run_by_number : code.FileRun → FileRun
run_by_number r =
    record { study = r.study; due = r.due; refused = stop_number r.stop; block = stop_block r.stop; place = stop_place r.stop }

abbrev pub corrected_by_number : corrected.CorrectedRun → CorrectedRun
corrected_by_number r =
    record { study = r.study; refused = stop_number r.stop; block = stop_block r.stop; place = stop_place r.stop }
