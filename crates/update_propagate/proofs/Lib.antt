pub mod Listed
pub mod Brought
