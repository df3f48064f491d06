-- What the test programs' shared functions compute.
pub mod Bits
pub mod Lists
pub mod Written
