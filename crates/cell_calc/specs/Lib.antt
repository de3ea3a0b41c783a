pub mod Aggregates
