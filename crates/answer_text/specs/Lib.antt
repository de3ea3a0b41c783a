pub mod Log
pub mod Layout
