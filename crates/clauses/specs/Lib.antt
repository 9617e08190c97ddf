pub mod Clauses
pub mod Inner
pub mod Computing
