-- `DocumentFigures`: the joint theorem.
pub mod DocumentFigures
