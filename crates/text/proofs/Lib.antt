pub mod Classes
pub mod Turns
pub mod Scans
pub mod Spans
pub mod Numerals
pub mod Marks
pub mod Plain
pub mod Signed
