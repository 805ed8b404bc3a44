pub mod LeavingJobs
pub mod Among
pub mod Together
pub mod Busy
