pub mod NumberLemmas
pub mod LineLemmas
pub mod PlaceLemmas
pub mod OrderLemmas
pub mod TextLemmas
pub mod HonestLemmas
