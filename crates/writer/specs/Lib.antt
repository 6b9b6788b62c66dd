-- What the writer's functions are held to, beside the definitions of `standard`.
pub mod Heads
pub mod Rows
pub mod Marks
pub mod Sizing
pub mod Direct
pub mod Filling
pub mod Marking
pub mod Tables
pub mod InCode
