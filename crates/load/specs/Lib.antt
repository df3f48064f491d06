-- What a load means: document 02, request No. 13.
pub mod Load
pub mod Rebuildable
pub mod design
