-- What a reader must believe, in reading order.
pub mod Answer
pub mod Choose
pub mod Bytes
pub mod Utf8
pub mod Text
pub mod Codes
pub mod Kinds
pub mod Tree
pub mod Grammar
pub mod Read
pub mod Table
pub mod Encode
pub mod Outcomes
pub mod Listing
pub mod InCode
pub mod Facts
pub mod Examples
