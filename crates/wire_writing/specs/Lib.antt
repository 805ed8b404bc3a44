pub mod RequestWriting
pub mod ReplyWriting
pub mod WireLimits
