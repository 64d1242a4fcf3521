pub mod Passages
pub mod Inside
