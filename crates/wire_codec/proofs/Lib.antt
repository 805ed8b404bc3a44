pub mod Decoding
pub mod Pendings
pub mod ElementsReadOnce
pub mod Passing
