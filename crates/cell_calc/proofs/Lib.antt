pub mod AggregateLemmas
