pub mod Rule
pub mod Suits
pub mod Asserted
pub mod RuleFor
pub mod Accepts
pub mod Inner
pub mod Computing
pub mod Examples
