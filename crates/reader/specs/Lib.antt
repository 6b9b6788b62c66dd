-- What the reader's functions are held to, beside the definitions of `standard`.
pub mod Entries
pub mod Measuring
pub mod Runs
pub mod Filling
pub mod InCode
pub mod Walking
