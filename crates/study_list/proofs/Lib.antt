-- `Lent`: a lent list that is short or long enough. `Copies`: a list copied over a part of another.
pub mod Lent
pub mod Copies
