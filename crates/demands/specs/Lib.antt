-- The three demands, of the code, and what the level limit does not alter.
pub mod Demand1
pub mod Demand2
pub mod Demand3
pub mod Levels
