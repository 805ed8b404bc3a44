-- The daemon's replies: as texts, as values, and what they make of a job.
pub mod Offered
pub mod ReplyTelling
pub mod ReplyFronts
pub mod HeardReply
pub mod Heeded
pub mod TakenOff
pub mod Delivering
pub mod Hearing
pub mod Values
pub mod Valued
