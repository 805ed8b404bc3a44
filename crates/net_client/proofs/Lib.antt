pub mod Hearings
pub mod Heeding
pub mod FrameRecords
pub mod Ending
