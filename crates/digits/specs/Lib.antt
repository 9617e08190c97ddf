pub mod Asserted
pub mod Named
pub mod Inner
pub mod Examples
