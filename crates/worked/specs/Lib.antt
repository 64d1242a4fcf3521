pub mod Plans
pub mod Cases
