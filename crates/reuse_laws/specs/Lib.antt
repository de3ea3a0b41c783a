pub mod Reuse
pub mod Laws
pub mod Grown
pub mod GrowthLaws
