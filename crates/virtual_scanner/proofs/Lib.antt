pub mod Trays
pub mod Limits
