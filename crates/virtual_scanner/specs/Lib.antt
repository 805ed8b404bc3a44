pub mod New
pub mod Phases
pub mod Answers
pub mod First
pub mod Scanners
pub mod Inside
