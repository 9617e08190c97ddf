pub mod Names
pub mod Inner
pub mod Examples
