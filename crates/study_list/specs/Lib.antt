-- `StudyList`: the numbers of a study. `Lent`: a lent list that is too short.
pub mod StudyList
pub mod Lent
