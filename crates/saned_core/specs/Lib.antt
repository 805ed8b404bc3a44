pub mod DaemonStates
pub mod Turns
pub mod Feeding
pub mod Inside
pub mod Loading
pub mod DaemonLimits
pub mod StringSizes
pub mod Laws
