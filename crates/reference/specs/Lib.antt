pub mod Reference
pub mod Allowed
pub mod Named
pub mod Numbers
pub mod Inner
pub mod Computing
pub mod Examples
