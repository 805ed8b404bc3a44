pub mod Kinds
pub mod Message
pub mod Faults
pub mod WireValues
