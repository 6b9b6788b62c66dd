pub mod Sequences
pub mod Ascii
pub mod Parts
pub mod Unique
