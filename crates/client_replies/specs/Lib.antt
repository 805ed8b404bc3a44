pub mod GivenValues
pub mod ClearJoins
pub mod ReplyTurns
pub mod Asking
pub mod ProtocolStates
