pub mod Runners
pub mod Runs
pub mod Crews
