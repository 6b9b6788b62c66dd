-- What a C caller is told.
pub mod Boundary
