pub mod ResultLemmas
pub mod WorkLemmas
pub mod WalkLemmas
pub mod CountLemmas
pub mod OfferLemmas
pub mod ReadLemmas
pub mod ReadyLemmas
