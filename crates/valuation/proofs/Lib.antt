-- For the crates above: `Laws` of z, m and T; `ReserveLaws` of the valuation rate and the factor; `Number`, that no factor is a NaN; `FactorFigures` and
-- `ReserveFigures`, document 01's figures; `ReserveLimit` and `WantedCount`, the theorems on the limit and
-- the wanted count. `BestNumbers`: z and r are what they are named for. `StudyFactor`: C of a study's groups. `ChangeOfDefinition`: code 6 counts in C. `AnswerTests` and `LimitAnswers` say which tests lead to which answer, `WantedLaws` where a search ends.
pub mod Laws
pub mod FactorFigures
pub mod ReserveLaws
pub mod Number
pub mod ReserveFigures
pub mod ReserveLimit
pub mod WantedCount
pub mod BestNumbers
pub mod StudyFactor
pub mod ChangeOfDefinition
mod AnswerTests
mod LimitAnswers
mod WantedLaws
