pub mod Played
pub mod Ordered
pub mod Tables
