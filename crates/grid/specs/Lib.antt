pub mod Outs
pub mod Sizes
pub mod Pixels
pub mod Headings
pub mod Plans
pub mod Pictures
pub mod Refusals
pub mod Doorways
