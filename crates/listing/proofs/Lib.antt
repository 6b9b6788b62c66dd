pub mod Decimals
pub mod Lines
pub mod NarrowKinds
pub mod Shown
