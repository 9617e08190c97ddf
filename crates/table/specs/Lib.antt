pub mod Inner
pub mod Check
