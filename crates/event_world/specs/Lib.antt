pub mod Endpoints
pub mod FileDraining
pub mod JobEvents
pub mod FileInvariant
pub mod Worlds
pub mod JobMoves
pub mod Rounds
