-- What the claim file means: document 01's section Claim file.
pub mod Bytes
pub mod Record
pub mod Block
pub mod BlockAnswers
pub mod Runs
pub mod Run
pub mod FedInPieces
pub mod Files
pub mod RoundTrip
pub mod OlderFiles
pub mod Corrections
pub mod CorrectedDemand3
pub mod StruckRuns
pub mod design
