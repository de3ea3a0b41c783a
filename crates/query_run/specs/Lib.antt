pub mod Queries
pub mod Steps
pub mod Ready
