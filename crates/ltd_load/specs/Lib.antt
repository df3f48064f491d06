-- `Words`: what a word says. `Asked`: what the words ask for, and the file's blocks.
pub mod Words
pub mod Asked
pub mod design
