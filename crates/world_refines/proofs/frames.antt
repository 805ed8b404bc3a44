-- The data connections of frames: records, turns, and the files that are made of them.
pub mod Dialling
pub mod RecordLaws
pub mod Streamed
pub mod Turned
pub mod TurnEvents
pub mod ReadOn
pub mod SeenSteps
pub mod SeenPiece
pub mod Seeing
pub mod Drained
pub mod Dried
pub mod Paged
pub mod CutOff
pub mod Unimaged
