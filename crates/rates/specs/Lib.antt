-- What a lent rate table means: document 01, Study, and the checks 6 to 8 of its table of refusals.
pub mod Rates
pub mod design
