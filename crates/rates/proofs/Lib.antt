-- The laws that other crates cite are in `Laws`, `Parts` and `SameTable`. `PartSums`, `Running`, `Preparing`, `TableForms`: sums over durations, running sums,
-- tables prepared in place and the form of a table, for this crate's proofs.
pub mod Laws
pub mod Parts
pub mod SameTable
mod PartSums
mod Running
mod Preparing
mod TableForms
