pub mod Events
pub mod Touches
pub mod Totals
pub mod Fold
pub mod Laws
