pub mod Sooner
pub mod Ahead
pub mod Earliest
pub mod Fronts
pub mod Owners
pub mod Parts
