-- What the functions of the text check are held to, beside the definitions of `standard`.
pub mod InCode
pub mod Steps
