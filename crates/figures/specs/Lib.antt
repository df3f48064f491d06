-- Document 01, "Figures to hold it to": the lines marked ◆.
pub mod DocumentFigures
