pub mod Heads
pub mod Keys
pub mod Members
pub mod Numbers
pub mod Totals
