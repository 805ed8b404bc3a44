pub mod DotFiles
pub mod HandTable
pub mod Inside
pub mod Worked
