pub mod Holding
pub mod OptionValues
pub mod RequestAnswers
pub mod LeaseLaws
pub mod Laws
pub mod Inside
