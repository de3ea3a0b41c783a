pub mod Emitters
pub mod Machines
pub mod Phrases
