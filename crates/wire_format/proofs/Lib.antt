pub mod Combining
pub mod Words
pub mod Runs
pub mod ReadLimits
pub mod Writers
pub mod Loops
