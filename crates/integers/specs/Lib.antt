pub mod Asserted
pub mod Inner
pub mod Examples
