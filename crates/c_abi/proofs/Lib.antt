-- `CallChains`: a list stands for its study, and calls on lists do what calls on studies do. `StudyCalls`: calls with a prepared table.
-- `CorrectedCalls`, `DurationCalls`: runs with corrections and rows of durations, and a prepared table. `CallsAddUp`: demand 3 of the calls.
-- `CallMoves`: moves and pools by the calls. `BlockCalls`: blocks written and read back by the calls.
-- `PartsAlong`: parts that are read off others. The other modules have what the proofs of the calls cite. `Changes`: which tests lead to which answer of
-- a call that changes a study.
pub mod StudyCalls
pub mod CallChains
pub mod CallsAddUp
pub mod CallMoves
pub mod CorrectedCalls
pub mod BlockCalls
pub mod DurationCalls
mod PartsAlong
mod Changes
