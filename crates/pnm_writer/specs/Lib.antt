pub mod PnmWriting
pub mod PnmReading
pub use Rattle.frame_join.specs.AloneFrame
pub use Rattle.frame_join.specs.FrameHistory
pub use Rattle.frame_join.specs.FrameFile
pub use Rattle.frame_join.specs.JoinStates
