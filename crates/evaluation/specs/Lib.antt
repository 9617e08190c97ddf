pub mod Truth
pub mod Reading
pub mod Assertion
pub mod Inner
pub mod Examples
