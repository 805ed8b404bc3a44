pub mod Slots
pub mod Alike
pub mod Calls
pub mod Feeding
pub mod Places
pub mod Requests
