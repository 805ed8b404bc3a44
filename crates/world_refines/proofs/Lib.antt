pub mod state
pub mod requests
pub mod replies
pub mod frames
pub mod job_events
pub mod moves
pub mod promise_proofs
