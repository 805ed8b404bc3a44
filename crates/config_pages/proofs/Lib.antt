pub mod PageLists
pub mod CallLists
pub mod NoScanners
mod LimitedReads
