pub mod Limits
pub mod Paper
pub mod Row
pub mod Body
pub mod Inner
pub mod Computing
