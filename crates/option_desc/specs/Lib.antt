pub mod WellFormed
pub mod Fits
pub mod Put
pub mod Reads
pub mod ShownText
pub mod Refuses
pub mod Representable
