pub mod ListedLemmas
pub mod OrderLemmas
pub mod HitLemmas
pub mod TableLemmas
pub mod DecideLemmas
pub mod MeantLemmas
pub mod PlaceLemmas
pub mod ExampleDecisions
