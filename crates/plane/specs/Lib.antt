pub mod First
pub mod Separation
pub mod Tests
pub mod Lines
pub mod Limits
pub mod Shapes
pub mod StoredLine
