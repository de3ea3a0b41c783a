pub mod Keys
pub mod Same
pub mod Spans
pub mod Parents
