-- `Text`: what the program prints. `Factors`: each of its lines has its T. `Digits`, `Counts`: a number's digits, and the bytes lent of a list.
pub mod Text
pub mod RunLines
pub mod Factors
pub mod Digits
pub mod Counts
pub mod design
