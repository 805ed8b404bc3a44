-- The other events of jobs and devices: connections, losses, cancels, pages laid in, devices taken out.
pub mod Beginnings
pub mod Constant
pub mod Fresh
pub mod ControlConnections
pub mod Lost
pub mod Losing
pub mod Cancelling
pub mod Leasing
pub mod Laying
pub mod Loading
pub mod Unplugging
pub mod Quiet
pub mod LeftAlone
pub mod Followed
