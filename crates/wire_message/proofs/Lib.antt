pub mod TheKinds
pub mod Messages
