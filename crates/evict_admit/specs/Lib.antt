pub mod Boards
pub mod Credits
pub mod Evictions
pub mod Laws
pub mod Leading
pub mod Runs
