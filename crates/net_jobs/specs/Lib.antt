pub mod JobJournal
pub mod JobSteps
pub mod JobTraces
pub mod Links
pub mod RunPromises
pub mod Outputs
pub mod Batches
pub mod Inside
