pub mod Usable
pub mod Shapes
