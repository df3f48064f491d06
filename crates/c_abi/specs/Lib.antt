-- What the calls for C and Rust answer, and what they leave in the lent lists.
pub mod Abi
pub mod StudyCalls
pub mod CallChains
pub mod CallsAddUp
pub mod CallMoves
pub mod RecordCalls
pub mod CompanyCalls
pub mod LoadCalls
pub mod BlockCalls
pub mod FileCalls
pub mod CorrectedCalls
pub mod DurationCalls
pub mod Version
