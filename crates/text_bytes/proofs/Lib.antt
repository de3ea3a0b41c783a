pub mod ByteLemmas
pub mod FoundLemmas
pub mod TextLemmas
pub mod NumberLemmas
pub mod DayLemmas
