pub mod Begins
pub mod TurnRows
pub mod Fitting
