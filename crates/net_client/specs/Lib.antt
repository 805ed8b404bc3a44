pub mod Sending
pub mod ClientStates
pub mod ToldPorts
pub mod Taking
pub mod ReplyPieces
pub mod FramePieces
pub mod Inside
