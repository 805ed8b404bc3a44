pub mod PageFile
pub mod PageReading
pub mod Opening
pub mod Failing
pub mod PnmState
pub mod KnownBytes
pub mod SourceView
pub mod Inside
