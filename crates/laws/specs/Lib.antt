-- What is proved of the definitions of `standard`: first the three demands, each with its proof, and the programs that they shut out; then the laws
-- that these rest on, and those that the code's own proofs cite.
pub mod Demand1
pub mod Demand2
pub mod Demand3
pub mod ShutOut
pub mod Numbers
pub mod Sequences
pub mod Texts
pub mod Answers
pub mod Complete
pub mod Sound
pub mod Unique
pub mod Shown
pub mod Levels
pub mod Shift
pub mod Appended
pub mod Bounds
pub mod Written
pub mod Tables
pub mod Round
pub mod Limits
pub mod Ranges
pub mod Longest
pub mod Flat
pub mod Flow
pub mod Stores
