pub mod Lookup
pub mod Widths
pub mod Unique
