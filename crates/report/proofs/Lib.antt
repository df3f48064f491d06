-- `Numbers`: a number's digits. `Texts`: texts put one behind another. `Lines`: how long the columns are, and a line put into a lent list. `RunLines`: the lines of a run. `TextLines`: all of them, one behind another. `Factors`: each group's line has its T.
pub mod Numbers
pub mod Texts
pub mod Lines
pub mod RunLines
pub mod TextLines
pub mod Factors
mod Powers
