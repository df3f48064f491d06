-- `Seeds`: a draw of a seed is a seed, and the steps of a load. `Passing`: a load's claims pass their checks and fit a record. `Blocks`: blocks of fifteen
-- claims read back. `FileBlocks`: a file's blocks one by one. `Rebuildable`: the theorem.
pub mod Seeds
pub mod Passing
mod Blocks
pub mod FileBlocks
pub mod Rebuildable
