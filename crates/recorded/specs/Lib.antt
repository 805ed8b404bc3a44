pub mod Names
pub mod Taken
