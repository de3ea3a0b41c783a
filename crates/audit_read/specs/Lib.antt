pub mod Bytes
pub mod Marks
pub mod Gate
pub mod Survey
pub mod Readings
