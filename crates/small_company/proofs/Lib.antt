-- `SmallCompanyRule`: what the rule says of every answer. `TwoYears`: the same day two years before. `Days`: the day that the calendar answers with.
-- `Listing`: the records of a claim list, one after the other. `Counting`: both counts of the claims passed. `Refusals`: what `?` answers. `Answers`: the answer by the checks
-- and the counts. `Moves`: the first group that moved far.
pub mod SmallCompanyRule
mod TwoYears
mod Days
mod Listing
mod Counting
mod Refusals
mod Answers
mod Moves
