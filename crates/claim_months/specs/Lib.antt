-- What the claim-month layer means: document 01's sections Calendar (claim months), Claim and Months of exposure.
-- `ChangeOfDefinition`: document 02's code 6. `Durations`: the statement that each duration adds up. `ClaimFigures`: the statement of its figures.
pub mod Claim
pub mod ClaimMonths
pub mod Exposure
pub mod Walk
pub mod Span
pub mod SpanIsBand
pub mod Windows
pub mod Listing
pub mod ChangeOfDefinition
pub mod Durations
pub mod ClaimFigures
pub mod design
