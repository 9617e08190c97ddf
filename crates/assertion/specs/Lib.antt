pub mod Item
pub mod Spaces
pub mod ValueText
pub mod Assertion
pub mod Inner
pub mod Computing
pub mod Examples
