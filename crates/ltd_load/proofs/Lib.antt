-- `Digits`: a word's number, digit by digit. `BlockClaims`: a block's places filled claim by claim. `FileLoop`: the file's blocks one after the other.
pub mod Digits
pub mod BlockClaims
pub mod FileLoop
