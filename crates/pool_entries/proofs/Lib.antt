pub mod Changed
pub mod Places
pub mod Ids
pub mod Owed
pub mod Numbers
