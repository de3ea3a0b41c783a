pub mod Fates
pub mod Plans
pub mod Faults
pub mod Parts
pub mod Added
