pub mod OptionLemmas
pub mod BindLemmas
pub mod LineageLemmas
pub mod SoundLemmas
mod Examples
