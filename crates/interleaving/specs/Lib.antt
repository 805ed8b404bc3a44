pub mod Interleavings
pub mod HandingOn
pub mod Parts
pub mod Orders
pub mod AtOnce
pub mod AmongStrangers
