pub mod Why
pub mod JobSize
pub mod Outcomes
pub mod KnownValues
pub mod Shelves
pub mod FileOutputs
pub mod Stops
