pub mod InFlight
pub mod FreePlaces
pub mod Requests
