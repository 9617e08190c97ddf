pub mod Escape
pub mod Reading
pub mod Building
pub mod Computing
pub mod Examples
pub mod Inner
