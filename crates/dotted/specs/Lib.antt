pub mod Inner
pub mod Examples
