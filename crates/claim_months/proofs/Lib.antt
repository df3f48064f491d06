-- `Picked`: an answer that a test picked. `Sound`: what the checks 2 to 5 say. `Months`: the claim months follow one another.
-- `Settled`: a month's thirtieths as a difference of what is settled before two days. `Additive`, `Closing`: what adds up over a cut.
-- `DateWindows`: the window of two dates. `Parts`, `Adds`: the same over any parts of a window. `MonthRuns`, `Spans`: the records are those of consecutive claim months. `SpanIsBand`: some months of a span at once. `Walk`: the walk that ends with the exposure. `ChangeOfDefinition`: code 6 is counted as a recovery.
-- `Checked`: the checked value of a claim. `SpanCode`: what the code of a span rests on.
-- `Ranges`: thirtieths, durations and categories of the records. `Rows`: the listing's rows. `RowTurns`: what the loop keeps that writes them. `Durations`: each duration adds up. `ClaimFigures`: document 01's figures.
mod Picked
pub mod Sound
pub mod Months
mod Settled
pub mod Additive
pub mod Parts
pub mod DateWindows
pub mod Closing
pub mod MonthRuns
pub mod Spans
pub mod SpanIsBand
pub mod SpanAnswers
mod Checked
mod SpanCode
pub mod Ranges
mod SignedRecords
mod Rows
mod RowTurns
pub mod Adds
pub mod Walk
pub mod ChangeOfDefinition
pub mod Durations
pub mod ClaimFigures
