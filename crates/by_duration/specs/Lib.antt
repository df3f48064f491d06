-- `Rows`: the rows of claims by duration. `Wrapped`: numbers of 64 bits. `DurationRuns`: the rows of a claim file. The others are what is proved
-- of them, each in the file of its name.
pub mod Rows
pub mod Wrapped
pub mod DurationRuns
pub mod ListedRows
pub mod SameRows
pub mod RowsDemand3
pub mod GroupTotals
pub mod design
