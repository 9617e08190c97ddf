pub mod There
pub mod Inner
pub mod Computing
pub mod Examples
