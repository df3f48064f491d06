-- `Tests`: tests taken apart. `Checks`: the first check that failed. `Refused`: refusals and their numbers. `Tables`: lists by their places. `Integers`, `Signed`: signed numbers and their bits. `Stores`: runs of stores
-- into a lent list.
pub mod Tests
pub mod Checks
pub mod Refused
pub mod Tables
pub mod Integers
pub mod Signed
pub mod Stores
