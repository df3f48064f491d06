-- What the valuation layer means: document 01's section Valuation, and the limit on reserves and the wanted count of document 02.
pub mod Factor
pub mod BestNumbers
pub mod Rate
pub mod Reserve
pub mod Number
pub mod LimitAnswers
pub mod ReserveLimit
pub mod WantedCount
pub mod StudyFactor
pub mod ChangeOfDefinition
pub mod Example
pub mod design
