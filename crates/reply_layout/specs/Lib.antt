pub mod Doings
pub mod Layout
