-- The promises of a world, by the laws of the model.
pub mod PromiseProofs
pub mod Counted
pub mod Named
pub mod WorldFiles
