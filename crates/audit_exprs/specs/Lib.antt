pub mod Takes
pub mod Signs
pub mod Between
pub mod Ahead
pub mod ExprLevels
pub mod CondLevels
