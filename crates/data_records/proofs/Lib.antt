pub mod Steps
pub mod StepsOverPieces
