-- `Sources`: where bytes come from. `Input`: `rates.bin`, the claim file and what is printed of them.
pub mod Sources
pub mod Input
pub mod design
