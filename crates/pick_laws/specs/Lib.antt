pub mod Picks
pub mod Shapes
pub mod Numbers
pub mod Laws
