-- `Wraps`, `Raised`: sums modulo 2⁶⁴, and rows raised by amounts. `Figures`, `SpanRows`, `RowGroups`: the figures of rows, spans and groups.
-- `ListedRows`: a listing's part. `Takes`, `FileTakes`: the claims that a run takes. `GroupTotals`, `RowsDemand3`, `SameRows`: the theorems of files.
-- `RowsTaken`: claims added to rows block by block.
pub mod Wraps
pub mod Raised
pub mod Figures
pub mod SpanRows
pub mod RowGroups
pub mod ListedRows
pub mod Takes
pub mod FileTakes
pub mod GroupTotals
pub mod RowsDemand3
pub mod SameRows
mod RowsTaken
