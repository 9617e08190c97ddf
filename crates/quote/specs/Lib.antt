pub mod Quote
pub mod Reading
pub mod Computing
pub mod Examples
pub mod Inner
