pub mod Checked
pub mod Pointwise
pub mod Runnable
pub mod Types
