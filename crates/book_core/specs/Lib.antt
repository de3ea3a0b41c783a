pub mod BookView
pub mod Answers
pub mod Offers
pub mod Begins
pub mod Versions
pub mod Lawful
pub mod Kept
pub mod Writes
