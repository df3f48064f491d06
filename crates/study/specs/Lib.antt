-- What the study layer means: document 01's section Study, demand 3, and document 02's requests.
pub mod Answers
pub mod Sums
pub mod Study
pub mod Weighting
pub mod Closings
pub mod ChangeOfDefinition
pub mod Demand3
pub mod Withdrawing
pub mod Moves
pub mod TakenBack
pub mod Joining
pub mod Pooling
pub mod PoolTrees
pub mod AnyGrouping
pub mod PoolOrders
pub mod Returned
pub mod design
