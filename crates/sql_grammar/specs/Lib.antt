pub mod Grammar
pub mod Statements
pub mod Refused
pub mod Nesting
pub mod Reads
pub mod Written
pub mod Formed
