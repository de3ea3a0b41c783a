pub mod Views
pub mod Answers
pub mod Usable
pub mod Carries
pub mod Named
pub mod Indexed
pub mod Placed
