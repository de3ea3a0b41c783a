pub mod FateLemmas
pub mod PlanLemmas
pub mod PlaceLemmas
pub mod CarryLemmas
pub mod RefusalLemmas
pub mod AlterLemmas
