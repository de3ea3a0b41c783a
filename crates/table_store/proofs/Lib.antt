pub mod VersionLemmas
pub mod TableLemmas
pub mod AddedLemmas
pub mod StampLemmas
pub mod PlaceLemmas
pub mod ReplacedLemmas
pub mod StayLemmas
