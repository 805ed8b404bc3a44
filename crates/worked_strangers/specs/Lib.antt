pub mod Visits
pub mod Histories
pub mod Lies
pub mod Inside
