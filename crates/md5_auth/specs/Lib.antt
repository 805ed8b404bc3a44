pub mod Reasons
pub mod UserLines
pub mod Allowed
pub mod ChallengeReading
pub mod Challenges
pub mod Laws
