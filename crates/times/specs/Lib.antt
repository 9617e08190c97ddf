pub mod Asserted
pub mod Examples
