-- The moves that a job has left.
pub mod Lengths
pub mod Paying
pub mod Spending
pub mod Budgets
pub mod Stuck
