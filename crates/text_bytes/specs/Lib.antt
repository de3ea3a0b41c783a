pub mod Classes
pub mod Found
pub mod Days
