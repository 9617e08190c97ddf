pub mod Images
pub mod Prepared
pub mod Twice
pub mod Asserted
pub mod Inner
pub mod Examples
