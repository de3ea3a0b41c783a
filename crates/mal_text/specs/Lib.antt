pub mod Blocks
pub mod Reader
pub mod Plans
pub mod Reads
pub mod Laws
