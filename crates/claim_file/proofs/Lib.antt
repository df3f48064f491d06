-- `RoundTrip`: the round trips of the calls. `FedInPieces`: a file in pieces. `LentFed`: a run fed, as the code sees it. `Files`: demand 3 for files.
-- `SameRuns`: runs with a prepared table. `OlderFiles`: files from before document 02's Nos. 4 and 7. `StruckRuns` and `CorrectedDemand3`: document 02's
-- No. 1. `Reading`: a claim block read. `ByteStores`: runs of stores, of claims' records among them. `ReadBack`: the claims of a written block.
-- `WholeRuns`: files that run to their end. `Kept`: what adding keeps, a
-- run's study has. `Slots`, `Sorting`, `Marking`: struck records. `CorrectedRuns`: the run with corrections step by
-- step. The other modules have what these and the proofs of the calls cite.
pub mod RoundTrip
pub mod FedInPieces
pub mod LentFed
pub mod Files
pub mod SameRuns
pub mod OlderFiles
pub mod StruckRuns
pub mod CorrectedDemand3
pub mod Reading
pub mod ByteStores
pub mod ReadBack
pub mod WholeRuns
pub mod Kept
mod BlockTrips
pub mod Runs
mod LentRuns
mod Stops
mod RecordParts
mod BlockTests
mod Changed
mod CheckColumns
mod WrittenBlocks
mod Split
mod Sealed
mod BlockZero
mod RunRecords
mod StruckBlocks
mod Sorting
mod Marking
mod Followed
mod Slots
mod CorrectedRuns
