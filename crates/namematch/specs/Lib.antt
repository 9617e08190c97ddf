pub mod Computing
pub mod Examples
pub mod Inner
