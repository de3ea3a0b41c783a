pub mod Progress
pub mod Turns
pub mod Kept
pub mod Work
pub mod Works
pub mod Stages
