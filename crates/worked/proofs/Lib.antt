pub mod Drawings
pub mod Readings
pub mod Known
pub mod Rows
pub mod Ring
pub mod Corridor
pub mod Worked
