pub mod Listed
pub mod Inner
pub mod Examples
