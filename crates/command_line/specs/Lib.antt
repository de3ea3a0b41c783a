pub mod Command
pub mod Numbers
pub mod Matches
pub mod Weights
pub mod Words
