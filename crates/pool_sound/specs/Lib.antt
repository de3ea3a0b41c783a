pub mod Lineage
pub mod Sound
pub mod Laws
