pub mod ConnectionTraces
pub mod ListenerTraces
pub mod SessionActions
pub mod Journal
pub mod JournalSteps
pub mod LoopInvariants
pub mod JournalSummary
pub mod HeldLeases
