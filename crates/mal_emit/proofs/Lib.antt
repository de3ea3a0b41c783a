pub mod GatherLemmas
pub mod GivesLemmas
pub mod MachineLemmas
pub mod PlanLemmas
pub mod TypeLemmas
