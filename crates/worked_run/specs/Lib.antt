pub mod UnderWay
pub mod Rounds
pub mod DoneRuns
