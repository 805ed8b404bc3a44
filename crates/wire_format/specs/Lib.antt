pub mod Format
pub mod WordKinds
pub mod Lawful
pub mod Limit
pub mod Writer
pub mod Laws
