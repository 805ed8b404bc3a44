pub mod Exits
pub mod ExitLaws
