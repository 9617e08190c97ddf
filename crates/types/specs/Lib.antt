pub mod Types
pub mod Inner
pub mod Begins
pub mod Admitted
pub mod Check
pub mod Computing
pub mod Paper
pub mod Examples
