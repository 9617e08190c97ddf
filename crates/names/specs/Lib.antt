pub mod Rfc4514
pub mod Compared
pub mod Computing
pub mod Examples
pub mod Inner
