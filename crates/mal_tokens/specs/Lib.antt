pub mod Tokens
pub mod Bytes
pub mod Operators
pub mod Laws
