pub mod Limits
pub mod Filter
pub mod Parse
pub mod Inner
pub mod Computing
pub mod Paper
pub mod Examples
