pub mod Faults
pub mod Bytes
pub mod Turns
pub mod Lexing
pub mod Numerals
pub mod Marks
pub mod Headings
pub mod Outs
