pub mod CellLemmas
pub mod ChainSteps
pub mod BetweenLemmas
pub mod ExprRules
pub mod AheadLemmas
pub mod CondRules
pub mod PassLemmas
