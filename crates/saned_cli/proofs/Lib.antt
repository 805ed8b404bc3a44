mod TableLaws
mod MarkLaws
mod CallLaws
mod PortLaws
mod ComerLaws
mod HisLaws
mod LookLaws
mod GiveLaws
mod KeptLaws
mod NetLaws
pub mod PlainNumbers
pub mod PortRanges
pub mod SocketLines
pub mod Seeds
mod Ends
mod LineLaws
mod BackLaws
